-- `cross` writes what the query on two curves tells.
use Rattle.std.proofs.Common.{rules, length, ℕ, List, ap, ◌∙◌, ◌++◌, arith, length-append, append_assoc}
use Rattle.calls_curves.specs.Curves.{curves_outcome}
use Rattle.std.proofs.lemmas.List.{length-map}
use Rattle.hits.specs.declared.CurveHit.{CurveHit}
use Rattle.hits.specs.Hit.{hit_from}
use Rattle.desk_print.specs.Printed.{hit_lines}
use Rattle.desk_print.proofs.Lines.{hits_length}
use Rattle.desk.proofs.Told.{cross_counted, cross_told}
use Rattle.desk.proofs.crossings.cross.Goals as goal

pub returns-in_err-t-clause-refused : goal.returns-in_err-t-clause-refused
returns-in_err-t-clause-refused g c =
    let z = c.args in
    search (rules, cross_told z.a z.b z.depth z.room.now c.requires.room _ _ c.in_err-t.ensures)

pub returns-in_err-t-clause-err : goal.returns-in_err-t-clause-err
returns-in_err-t-clause-err g c =
    let z = c.args in
    search (rules, cross_told z.a z.b z.depth z.room.now c.requires.room _ _ c.in_err-t.ensures)

pub first_hits-requires : goal.first_hits-requires
first_hits-requires g c =
    let z = c.args in
    let k = cross_counted z.a z.b z.depth z.room.now c.requires.room c.in_ok-t.t _ c.in_ok-t.ensures in
    omega arith

pub put_hits-requires : goal.put_hits-requires
put_hits-requires g c =
    let z = c.args in
    let k = cross_counted z.a z.b z.depth z.room.now c.requires.room c.in_ok-t.t _ c.in_ok-t.ensures in
    omega (arith, k.stand.count, length-map c.first_hits.result.now hit_from, ap length (c.first_hits.ensures _ _ k.stand))

pub end_line-requires : goal.end_line-requires
end_line-requires g c =
    let z = c.args in
    let o = curves_outcome z.a z.b z.depth in
    let k = cross_counted z.a z.b z.depth z.room.now c.requires.room c.in_ok-t.t _ c.in_ok-t.ensures in
    let lines = c.put_hits.ensures ∙ ap (λ (hs : List CurveHit). z.out.now.items ++ hit_lines z.line 1 hs) (c.first_hits.ensures _ _ k.stand) in
    (search rules, omega (arith, simp length-append at (ap {B = ℕ} length lines), hits_length z.line 1 o.hits))

pub returns-clause-refused : goal.returns-clause-refused
returns-clause-refused g c =
    let z = c.args in
    (cross_counted z.a z.b z.depth z.room.now c.requires.room c.in_ok-t.t _ c.in_ok-t.ensures).taken

pub returns-clause-ok : goal.returns-clause-ok
returns-clause-ok g c =
    let z = c.args in
    let k = cross_counted z.a z.b z.depth z.room.now c.requires.room c.in_ok-t.t _ c.in_ok-t.ensures in
    record { bytes = rw (c.end_line.ensures, c.put_hits.ensures, c.first_hits.ensures _ _ k.stand, k.counts, append_assoc); hits = k.stand.numbers }
