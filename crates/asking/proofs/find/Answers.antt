use Rattle.std.proofs.Common.{rules, arith}
use Rattle.asking.proofs.Frames.{row_01, row_02, row_03, row_04, row_05, row_06, row_07, row_08, row_09, row_0_a}
use Rattle.asking.proofs.Frames.{not_01, not_02, not_03, not_04, not_05, not_06, not_07, not_08, not_09, not_0_a, unknown, unlisted}
use Rattle.asking.specs.Frame.{bad_line}
use Rattle.asking.proofs.find.Goals as goal

pub returns-in-1-len3 : goal.returns-in-1-len3
returns-in-1-len3 c z = row_01 z c.args.frame.now _ (search rules) (search rules) c.on_channel.ensures

pub returns-in-2-len2 : goal.returns-in-2-len2
returns-in-2-len2 c z = row_02 z c.args.frame.now _ (search rules) (search rules) c.on_channel-in-2-len2.ensures

pub returns-in-3-len1-up : goal.returns-in-3-len1-up
returns-in-3-len1-up c z = row_03 z c.args.frame.now _ (search rules) (search rules) c.on_channel-in-3-len1-up.ensures

pub returns-in-4-len1 : goal.returns-in-4-len1
returns-in-4-len1 c z = row_04 z c.args.frame.now _ (search rules) (search rules) c.on_channel-in-4-len1.ensures

pub returns-in-5-len2 : goal.returns-in-5-len2
returns-in-5-len2 c z = row_05 z c.args.frame.now _ (search rules) (search rules) c.on_channel-in-5-len2.ensures

pub returns-in-6-len2 : goal.returns-in-6-len2
returns-in-6-len2 c z = row_06 z c.args.frame.now _ (search rules) (search rules) c.on_channel-in-6-len2.ensures

pub returns-in-7-len1-up : goal.returns-in-7-len1-up
returns-in-7-len1-up c z = row_07 z c.args.frame.now _ (search rules) (search rules) c.on_channel-in-7-len1-up.ensures

pub returns-in-9-len1 : goal.returns-in-9-len1
returns-in-9-len1 c z = row_09 z c.args.frame.now _ (search rules) (search rules) c.on_channel-in-9-len1.ensures

pub returns-in-10-len1 : goal.returns-in-10-len1
returns-in-10-len1 c z = row_0_a z c.args.frame.now _ (search rules) (search rules) c.on_channel-in-10-len1.ensures

pub returns-in-8-empty : goal.returns-in-8-empty
returns-in-8-empty c z = row_08 z c.args.frame.now (search rules) (search rules)

pub returns-in_default : goal.returns-in_default
returns-in_default c z = bad_line (unknown z c.args.frame.now (omega arith))

pub returns-in_default-2 : goal.returns-in_default-2
returns-in_default-2 c z = bad_line (search (rules, not_01, not_02, not_03, not_04, not_05, not_06, not_07, not_08, not_09, not_0_a))

pub returns-in_default-2-2 : goal.returns-in_default-2-2
returns-in_default-2-2 c z = bad_line (search (rules, not_01, not_02, not_03, not_04, not_05, not_06, not_07, not_08, not_09, not_0_a))

pub returns-in_default-2-3 : goal.returns-in_default-2-3
returns-in_default-2-3 c z = bad_line (search (rules, not_01, not_02, not_03, not_04, not_05, not_06, not_07, not_08, not_09, not_0_a))

pub returns-in_default-2-4 : goal.returns-in_default-2-4
returns-in_default-2-4 c z = bad_line (search (rules, not_01, not_02, not_03, not_04, not_05, not_06, not_07, not_08, not_09, not_0_a))

pub returns-in_default-2-5 : goal.returns-in_default-2-5
returns-in_default-2-5 c z = bad_line (search (rules, not_01, not_02, not_03, not_04, not_05, not_06, not_07, not_08, not_09, not_0_a))

pub returns-in_default-2-6 : goal.returns-in_default-2-6
returns-in_default-2-6 c z = bad_line (search (rules, not_01, not_02, not_03, not_04, not_05, not_06, not_07, not_08, not_09, not_0_a))

pub returns-in_default-2-7 : goal.returns-in_default-2-7
returns-in_default-2-7 c z = bad_line (search (rules, not_01, not_02, not_03, not_04, not_05, not_06, not_07, not_08, not_09, not_0_a))

pub returns-in_default-2-8 : goal.returns-in_default-2-8
returns-in_default-2-8 c z = bad_line (search (rules, not_01, not_02, not_03, not_04, not_05, not_06, not_07, not_08, not_09, not_0_a))

pub returns-in_default-2-9 : goal.returns-in_default-2-9
returns-in_default-2-9 c z = bad_line (search (rules, not_01, not_02, not_03, not_04, not_05, not_06, not_07, not_08, not_09, not_0_a))

pub returns-in_default-2-10 : goal.returns-in_default-2-10
returns-in_default-2-10 c z = bad_line (search (rules, not_01, not_02, not_03, not_04, not_05, not_06, not_07, not_08, not_09, not_0_a))

pub returns-in_default-2-11 : goal.returns-in_default-2-11
returns-in_default-2-11 c z = bad_line (search (rules, not_01, not_02, not_03, not_04, not_05, not_06, not_07, not_08, not_09, not_0_a))

pub returns-in_default-2-12 : goal.returns-in_default-2-12
returns-in_default-2-12 c z = bad_line (search (rules, not_01, not_02, not_03, not_04, not_05, not_06, not_07, not_08, not_09, not_0_a))

pub returns-in_default-2-13 : goal.returns-in_default-2-13
returns-in_default-2-13 c z = bad_line (search (rules, not_01, not_02, not_03, not_04, not_05, not_06, not_07, not_08, not_09, not_0_a))

pub returns-in_default-2-14 : goal.returns-in_default-2-14
returns-in_default-2-14 c z = bad_line (search (rules, not_01, not_02, not_03, not_04, not_05, not_06, not_07, not_08, not_09, not_0_a))

pub returns-in_default-2-15 : goal.returns-in_default-2-15
returns-in_default-2-15 c z = bad_line (search (rules, not_01, not_02, not_03, not_04, not_05, not_06, not_07, not_08, not_09, not_0_a))

pub returns-in_default-2-16 : goal.returns-in_default-2-16
returns-in_default-2-16 c z = bad_line (search (rules, not_01, not_02, not_03, not_04, not_05, not_06, not_07, not_08, not_09, not_0_a))

pub returns-in_default-2-17 : goal.returns-in_default-2-17
returns-in_default-2-17 c z = bad_line (search (rules, not_01, not_02, not_03, not_04, not_05, not_06, not_07, not_08, not_09, not_0_a))

pub returns-in_default-2-18 : goal.returns-in_default-2-18
returns-in_default-2-18 c z = bad_line (search (rules, unlisted))
