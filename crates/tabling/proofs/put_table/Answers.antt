use Rattle.page.specs.Page.{shown}
use Rattle.tabling.proofs.Lines.{whole_table}
use Rattle.tabling.proofs.put_table.Goals as goal

pub returns : goal.returns
returns c = whole_table (shown c.args.page.now) c.put_text.ensures c.put_lines.ensures
