use Rattle.std.proofs.Common.{arith}
use Rattle.confirming.proofs.Passes.{one_more, has_place, puts_one, puts_all, never_refused}
use Rattle.confirming.proofs.put_entries.Goals as goal

pub put_entry-requires : goal.put_entry-requires
put_entry-requires c = has_place c.loop-entry.invariant c.next.ensures c.requires c.in-Ok-Some.entry (cc)

pub overflow_add-count : goal.overflow_add-count
overflow_add-count c =
    let place = has_place c.loop-entry.invariant c.next.ensures c.requires c.in-Ok-Some.entry (cc) in
    omega (arith, place.in_places, c.loop-entry.auto.places, c.well_formed)

pub loop-entry-smaller : goal.loop-entry-smaller
loop-entry-smaller c = omega (arith, one_more c.loop-entry.invariant.passing c.next.ensures c.in-Ok-Some.entry (cc))

pub loop-entry-preserved : goal.loop-entry-preserved
loop-entry-preserved c = rw c.put_entry.ensures (puts_one c.loop-entry.invariant c.next.ensures c.requires c.in-Ok-Some.entry (cc))

pub returns-in_default : goal.returns-in_default
returns-in_default c = puts_all c.loop-entry.invariant c.next.ensures c.requires (cc)

pub returns-in_default-2 : goal.returns-in_default-2
returns-in_default-2 c = absurd (never_refused c.loop-entry.invariant c.next.ensures c.requires _ c.in_default.is)
