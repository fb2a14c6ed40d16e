-- `sine::steps::float` meets its contract: the difference fits a signed number, and it is a float exactly.
use Rattle.std.proofs.Common.{◌≡◌, ℕ, suc, ◌-◌, ◌*◌, ◌^◌, ◌≤◌, Bool, true, false, cond, ltb, ℤ, pos, negsuc, ◌-ℤ◌, refl, ap, ◌∙◌, arith, to_z-of_z, w64, SFits, to_z, of_z, lt-ltb}
use lib.IntN.{sub_ℕ}
use Rattle.sine.specs.Rule.{floated}
use Rattle.sine.proofs.Signs.{floated_flip}
use Rattle.sine.proofs.steps.float.Goals as goal

-- ---- k - 3 * 2 ^ 53, for k from 2 ^ 54 to 2 ^ 55
module _ (k : ℕ) (low : 2 ^ 54 ≤ k) (high : k ≤ 2 ^ 55) where
  signed_is : to_z w64 k ≡ pos k
  signed_is = rw (lt-ltb k (2 ^ 63) (omega arith)) refl

  difference-is : to_z w64 k -ℤ pos 27021597764222976 ≡ sub_ℕ k (3 * 2 ^ 53)
  difference-is = rw signed_is refl

  difference-fits : SFits w64 (sub_ℕ k (3 * 2 ^ 53))
  difference-fits = go (ltb k (3 * 2 ^ 53)) refl
    where
      go : (b : Bool) → ltb k (3 * 2 ^ 53) ≡ b → SFits w64 (cond b (negsuc (3 * 2 ^ 53 - suc k)) (pos (k - 3 * 2 ^ 53)))
      go true e = record { sfits = omega arith }
      go false e = record { sfits = omega arith }

  stored_is : to_z w64 (of_z w64 (to_z w64 k -ℤ pos 27021597764222976)) ≡ sub_ℕ k (3 * 2 ^ 53)
  stored_is = ap (λ (z : ℤ). to_z w64 (of_z w64 z)) difference-is ∙ to_z-of_z difference-fits

pub returns : goal.returns
unfolding floated
returns c =
    let k = c.args.k in
    let r = c.requires in
    c.pick.ensures ∙ rw (stored_is k r.0 r.1) (floated_flip k c.args.flip)
