-- The bytes so far are on the page, two capitals each.
use Rattle.std.proofs.Common.{◌≡◌, take}
use Rattle.paper.specs.Frames.{hexadecimal}
use Rattle.page.specs.Page.{shown, with_text}
use Rattle.hexadecimal.proofs.put_bytes.Given as goal

abbrev pub invariant-loop-byte : goal.invariant-loop-byte
invariant-loop-byte l = shown l.page ≡ with_text (hexadecimal (take l.byte-index l.bytes)) (shown l.fn.page)
