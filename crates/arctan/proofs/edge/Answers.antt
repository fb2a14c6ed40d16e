-- `arctan::edge` meets its contract.
use Rattle.std.proofs.Common.{sym, refl, ◌∙◌}
use Rattle.arctan.proofs.Cases.{edge_nan, edge_number}
use Rattle.arctan.proofs.edge.Goals as goal

pub returns-then-is_nan : goal.returns-then-is_nan
returns-then-is_nan c =
    let y = c.args.y in
    let x = c.args.x in
    c.not_a_number.ensures ∙ sym (edge_nan y x (rw (c.is_nan.ensures.value, c.is_nan-2.ensures.value) at c.if-is_nan.true))

pub returns : goal.returns
returns c =
    let y = c.args.y in
    let x = c.args.x in
    rw (c.pick.ensures, c.is_negative.ensures, c.edge_size-a.ensures, edge_number y x (rw (c.is_nan.ensures.value, c.is_nan-2.ensures.value) at c.if-is_nan.false)) refl
