-- `sine_table::node_sine` reads the table: past the arms there is no number.
-- Written by crates/sine_table/tools/table.py.
use mathlib.Core.Path.{sym}
use lib.ListN.{get_or-eq_default}
use Rattle.fixed.proofs.Arms.{past}
use Rattle.sine_table.specs.Table.{sines}
use Rattle.sine_table.proofs.node_sine.Goals as goal

pub returns-in_default : goal.returns-in_default
unfolding sines
returns-in_default c = sym (get_or-eq_default sines 0 (past 102 _ c.in_default.in_default-own.rest))
