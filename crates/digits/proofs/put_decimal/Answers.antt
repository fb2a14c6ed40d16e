use Rattle.std.proofs.Common.{◌≡◌, List, ℕ, ◌+◌, ◌-◌, ◌++◌, length, set, refl, sym, ap, ◌∙◌, arith}
use lib.ListN.{length-set}
use Rattle.std.proofs.lemmas.List.{drop-set}
use Rattle.digits.proofs.Digits.{written-none, written-more, written-next, written-last, appended-next, appended-done}
use Rattle.digits.proofs.put_decimal.Goals as goal

pub loop-rest-init : goal.loop-rest-init
loop-rest-init g c = record { row = refl; written = written-none c.args.n (omega (arith, c.ranges.n)) }

pub overflow_sub-first : goal.overflow_sub-first
overflow_sub-first g c = omega (arith, written-more c.loop-rest.invariant.written (omega arith))

pub loop-rest-preserved : goal.loop-rest-preserved
loop-rest-preserved g c =
    let l = c.loop-rest in
    let w = written-next l.invariant.written (omega arith) in
    let more = written-more l.invariant.written (omega arith) in
    let back : l.first - 1 + 1 ≡ l.first = omega arith in
    let left : l.first + 1 - 1 ≡ l.first = omega arith in
    record {
      row = length-set l.digits l.first _ ∙ l.invariant.row;
      written = rw (back, drop-set l.digits l.first _ (omega (arith, l.invariant.row))) (rw left at w);
    }

pub loop-i-init : goal.loop-i-init
loop-i-init g c =
    let l = c.loop-rest in
    record {
      room = omega arith;
      all = ap (λ (d : List ℕ). c.args.out.now.items ++ d) (drop-set l.digits l.first _ (omega (arith, l.invariant.row)) ∙ written-last l.invariant.written (omega arith) (omega arith));
    }

pub loop-i-preserved : goal.loop-i-preserved
loop-i-preserved g c =
    let l = c.loop-rest in
    let row : length (set l.digits l.first (48 + l.rest)) ≡ 20 = length-set l.digits l.first _ ∙ l.invariant.row in
    record { room = omega arith; all = rw c.push.ensures.items (appended-next c.loop-i.out.items _ c.loop-i.i (omega arith) ∙ c.loop-i.invariant.all) }

pub returns : goal.returns
returns g c =
    let l = c.loop-rest in
    let row : length (set l.digits l.first (48 + l.rest)) ≡ 20 = length-set l.digits l.first _ ∙ l.invariant.row in
    sym (appended-done c.loop-i.out.items _ c.loop-i.i (omega arith)) ∙ c.loop-i.invariant.all
