-- What is read is what the grammar says, and what the grammar says is read: no line says two things.
use Rattle.std.proofs.Common.{◌≡◌, ℕ, ◌≤◌, List, [], ◌∷◌, Some, length, refl, sym, ap, ◌∙◌, arith}
use Rattle.std.proofs.lemmas.Option.{none-some, same_Some, option_and_then_some}
use native.Mathlib.Decide.{dec_le, ℕ_discrete}
use borrow.Author.Tests.{eq-eqb, ne_eqb, le-ltb}
use Rattle.curves.specs.declared.Curve.TheVariants as curve
use Rattle.desk_line.specs.declared.Line.{Line}
use Rattle.desk_line.specs.declared.Line.TheVariants as says
use Rattle.desk_fields.specs.Text.{tabbed}
use Rattle.desk_fields.specs.Field.{byte_of, number_of, digit_of, mark_of, record_of, end_of}
use Rattle.desk_line.specs.Grammar.{Form, Says}
use Rattle.desk_line.specs.Read.{segment_of, arc_of, query_of, read_line}
use Rattle.desk_fields.proofs.Steps.{byte_text}
use Rattle.desk_fields.proofs.Texts.{number_text, digit_text, mark_text, record_text}
use Rattle.desk_fields.proofs.Readings.{number_read, digit_read, mark_read, record_read}
use Rattle.desk_line.proofs.Long.{read_long}

-- ---- what is read is what the grammar says
end_text : (line : List ℕ) (t : Unit) → end_of line ≡ Some t → line ≡ tabbed []
unfolding tabbed
end_text [] t e = refl
end_text (b ∷ line) t e = absurd (none-some t e)

module _ (line rest : List ℕ) (l : Line) where
  segment_says : line ≡ 83 ∷ rest → segment_of rest ≡ Some l → Form line l
  unfolding segment_of Form
  segment_says k e =
      option_and_then_some _ (number_of rest) l e (λ x1 e1 e.
      option_and_then_some _ (number_of x1.1) l e (λ y1 e2 e.
      option_and_then_some _ (number_of y1.1) l e (λ x2 e3 e.
      option_and_then_some _ (number_of x2.1) l e (λ y2 e4 e.
      option_and_then_some _ (end_of y2.1) l e (λ t e5 e.
      let a = number_text rest x1.0 x1.1 e1 in
      let b = number_text x1.1 y1.0 y1.1 e2 in
      let c = number_text y1.1 x2.0 x2.1 e3 in
      let d = number_text x2.1 y2.0 y2.1 e4 in
      rw (← (same_Some (says.Record (curve.Segment x1.0 y1.0 x2.0 y2.0)) l e))
      (record { a = a.number; b = b.number; c = c.number; d = d.number; text = k ∙ ap (λ (f : List ℕ). 83 ∷ f) (a.text _ (b.text _ (c.text _ (d.text [] (end_text y2.1 t e5))))) }))))))

  arc_says : line ≡ 65 ∷ rest → arc_of rest ≡ Some l → Form line l
  unfolding arc_of Form
  arc_says k e =
      option_and_then_some _ (number_of rest) l e (λ x e1 e.
      option_and_then_some _ (number_of x.1) l e (λ y e2 e.
      option_and_then_some _ (number_of y.1) l e (λ radius e3 e.
      option_and_then_some _ (number_of radius.1) l e (λ radius_b e4 e.
      option_and_then_some _ (number_of radius_b.1) l e (λ rotation e5 e.
      option_and_then_some _ (number_of rotation.1) l e (λ start e6 e.
      option_and_then_some _ (number_of start.1) l e (λ end e7 e.
      option_and_then_some _ (mark_of end.1) l e (λ ccw e8 e.
      option_and_then_some _ (mark_of ccw.1) l e (λ closed e9 e.
      option_and_then_some _ (mark_of closed.1) l e (λ is_ellipse e10 e.
      option_and_then_some _ (end_of is_ellipse.1) l e (λ t e11 e.
      let n1 = number_text rest x.0 x.1 e1 in
      let n2 = number_text x.1 y.0 y.1 e2 in
      let n3 = number_text y.1 radius.0 radius.1 e3 in
      let n4 = number_text radius.1 radius_b.0 radius_b.1 e4 in
      let n5 = number_text radius_b.1 rotation.0 rotation.1 e5 in
      let n6 = number_text rotation.1 start.0 start.1 e6 in
      let n7 = number_text start.1 end.0 end.1 e7 in
      let m1 = mark_text end.1 ccw.0 ccw.1 e8 in
      let m2 = mark_text ccw.1 closed.0 closed.1 e9 in
      let m3 = mark_text closed.1 is_ellipse.0 is_ellipse.1 e10 in
      rw (← (same_Some (says.Record (curve.Arc _)) l e))
      (record {
        x = n1.number;
        y = n2.number;
        r = n3.number;
        s = n4.number;
        turn = n5.number;
        start = n6.number;
        end = n7.number;
        text = k ∙ ap (λ (f : List ℕ). 65 ∷ f) (n1.text _ (n2.text _ (n3.text _ (n4.text _ (n5.text _ (n6.text _ (n7.text _ (m1 _ (m2 _ (m3 [] (end_text is_ellipse.1 t e11)))))))))));
      }))))))))))))

  query_says : line ≡ 88 ∷ rest → query_of rest ≡ Some l → Form line l
  unfolding query_of Form
  query_says k e =
      option_and_then_some _ (record_of rest) l e (λ first e1 e.
      option_and_then_some _ (record_of first.1) l e (λ second e2 e.
      option_and_then_some _ (digit_of second.1) l e (λ depth e3 e.
      option_and_then_some _ (end_of depth.1) l e (λ t e4 e.
      let p = record_text rest first.0 first.1 e1 in
      let q = record_text first.1 second.0 second.1 e2 in
      let d = digit_text second.1 depth.0 depth.1 e3 in
      rw (← (same_Some (says.Query first.0 second.0 depth.0) l e))
      (record { first = p.number; second = q.number; digit = d.small; text = k ∙ ap (λ (f : List ℕ). 88 ∷ f) (p.text _ (q.text _ (d.text [] (end_text depth.1 t e4)))) })))))

pub read_says : (line : List ℕ) (l : Line) → read_line line ≡ Some l → Says line l
unfolding read_line
read_says line l e =
    elim (dec_le (length line) 256) [
      | no h ↦ absurd (none-some l (sym (read_long line (omega arith)) ∙ e))
      | yes h ↦
          option_and_then_some _ (byte_of line) l (rw (le-ltb 256 (length line) h) at e) (λ k e1 e2.
          let text = byte_text line k.0 k.1 e1 in
          record {
            short = h;
            form = elim (ℕ_discrete k.0 83) [
              | yes s ↦ segment_says line k.1 l (rw s at text) (rw (eq-eqb k.0 83 s) at e2)
              | no s ↦ elim (ℕ_discrete k.0 65) [
                | yes a ↦ arc_says line k.1 l (rw a at text) (rw (ne_eqb k.0 83 s, eq-eqb k.0 65 a) at e2)
                | no a ↦ elim (ℕ_discrete k.0 88) [
                  | yes x ↦ query_says line k.1 l (rw x at text) (rw (ne_eqb k.0 83 s, ne_eqb k.0 65 a, eq-eqb k.0 88 x) at e2)
                  | no x ↦ absurd (none-some l (rw (ne_eqb k.0 83 s, ne_eqb k.0 65 a, ne_eqb k.0 88 x) at e2))
                ]
              ]
            ];
          })
    ]

-- ---- what the grammar says is read
form_read : (line : List ℕ) (l : Line) → length line ≤ 256 → Form line l → read_line line ≡ Some l
unfolding read_line segment_of arc_of query_of Form tabbed
form_read line (says.Record (curve.Segment x1 y1 x2 y2)) h s =
    rw (le-ltb 256 (length line) h, s.text) (rw (number_read _ s.a, number_read _ s.b, number_read _ s.c, number_read _ s.d))
form_read line (says.Record (curve.Arc e)) h s =
    rw (le-ltb 256 (length line) h, s.text)
    (rw (number_read _ s.x, number_read _ s.y, number_read _ s.r, number_read _ s.s)
    (rw (number_read _ s.turn, number_read _ s.start, number_read _ s.end, mark_read _ e.ccw, mark_read _ e.closed, mark_read _ e.is_ellipse)))
form_read line (says.Query a b depth) h s =
    rw (le-ltb 256 (length line) h, s.text) (rw (record_read _ s.first, record_read _ s.second, digit_read _ depth s.digit))

pub says_read : (line : List ℕ) (l : Line) → Says line l → read_line line ≡ Some l
says_read line l s = form_read line l s.short s.form

pub says_once : (line : List ℕ) (l m : Line) → Says line l → Says line m → l ≡ m
says_once line l m s t = same_Some l m (sym (says_read line l s) ∙ says_read line m t)
