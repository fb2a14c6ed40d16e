-- `arctan::table::look` meets its contract: past the arms the number is the last row's or above.
-- Written by crates/arctan_table/tools/table.py.
use Rattle.std.proofs.Common.{refl}
use native.Mathlib.Nat.{min-eq_right}
use Rattle.fixed.proofs.Arms.{past}
use Rattle.arctan_table.specs.Table.{table, coefs_at}
use Rattle.arctan.specs.Rows.{plain, raised, row_from, row_at}
use Rattle.arctan.proofs.table.look.Goals as goal

pub returns-in_default : goal.returns-in_default
unfolding coefs_at plain raised row_at row_from table
returns-in_default c = rw (min-eq_right (past 32 _ c.in_default.in_default-own.rest)) refl
