use Rattle.std.proofs.lemmas.Result.{err_from_is_err_and}
use Rattle.confirming.specs.Promise.{columns}
use Rattle.confirming.proofs.Calls.{refuses_many, has_places, lists}
use Rattle.confirming.proofs.list_whole.Goals as goal

pub returns-in_err-listed : goal.returns-in_err-listed
returns-in_err-listed c =
    let l = columns c.args.places.now c.args.numbers.now c.args.litres.now c.args.judgements.now in
    let refused = rw (c.min-most.ensures, c.min.ensures, c.min-2.ensures) at c.in_err-listed.ensures in
    let p = err_from_is_err_and c.from_residual.result c.from_residual.ensures.1 in
    rw (p.1, p.2) (refuses_many c.args.stream.now l c.requires _ refused)

pub put_entries-requires : goal.put_entries-requires
put_entries-requires c =
    let l = columns c.args.places.now c.args.numbers.now c.args.litres.now c.args.judgements.now in
    let counted = rw (c.min-most.ensures, c.min.ensures, c.min-2.ensures) at c.in_ok-listed.ensures in
    has_places c.args.stream.now l c.requires _ counted

pub returns : goal.returns
returns c =
    let l = columns c.args.places.now c.args.numbers.now c.args.litres.now c.args.judgements.now in
    let counted = rw (c.min-most.ensures, c.min.ensures, c.min-2.ensures) at c.in_ok-listed.ensures in
    rw c.put_entries.ensures (lists c.args.stream.now l c.requires _ counted)
