-- Hex digits that are read are those of the number read, and the digits of a number are read as that number.
use Rattle.std.proofs.Common.{◌≡◌, ℕ, zero as nought, suc, ◌+◌, ◌*◌, ◌/◌, ◌%◌, ◌^◌, ◌<◌, List, ◌∷◌, ◌++◌, Some, length, length-append, refl, sym, arith}
use Rattle.std.proofs.Math.Seq.{append_snoc}
use Rattle.std.proofs.lemmas.Option.{some_pair_parts, option_and_then_some}
use Rattle.digits.specs.Hex.{hex_digit, hex_digits, hex, hex_value}
use Rattle.digits.proofs.Values.{hex_value-digit, hex_digit-from_value}
use Rattle.desk_fields.specs.Field.{byte_of, bits_after, bits_of}
use Rattle.desk_fields.proofs.Steps.{byte_text}
use Rattle.std.proofs.Math.Nat.{pow-suc}

pub hex-length : (k n : ℕ) → length (hex_digits k n) ≡ k
unfolding hex_digits
hex-length nought n = refl
hex-length (suc k) n = rw (length-append, hex-length k (n / 16)) (omega arith)

-- ---- read: w comes of the j digits of v and k digits more
record Hexed (j k v w : ℕ) (bs rest : List ℕ) : Type 0 where
  text : hex_digits j v ++ bs ≡ hex_digits (j + k) w ++ rest
  small : v < 16 ^ j → w < 16 ^ (j + k)

-- one digit of the k is of the number, not of what is still to be read
hexed_more : (j k v w b d : ℕ) (bs rest : List ℕ) → hex_value b ≡ Some d → Hexed (suc j) k (v * 16 + d) w bs rest → Hexed j (suc k) v w (b ∷ bs) rest
unfolding hex_digits
hexed_more j k v w b d bs rest h x =
    let e : j + suc k ≡ suc j + k = omega arith in
    let g = hex_digit-from_value b d h in
    let q : (v * 16 + d) / 16 ≡ v = omega (arith, g.small) in
    let r : (v * 16 + d) % 16 ≡ d = omega (arith, g.small) in
    record {
      text = rw (e, ← x.text, q, r, ← g.byte) (sym (append_snoc (hex_digits j v) b bs));
      small = λ l. rw e (x.small (omega (arith, g.small, pow-suc 16 j)));
    }

hexed : (j k v w : ℕ) (bs rest : List ℕ) → bits_after k v bs ≡ Some (w, rest) → Hexed j k v w bs rest
unfolding bits_after
hexed j nought v w bs rest e =
    let s = some_pair_parts v w bs rest e in
    let n : j + 0 ≡ j = omega arith in
    record { text = rw (n, s.0, s.1); small = λ l. rw (n, ← s.0) l }
hexed j (suc k) v w bs rest e =
    option_and_then_some _ (byte_of bs) (w, rest) e (λ p first more.
    option_and_then_some _ (hex_value p.0) (w, rest) more (λ d value after.
    rw (byte_text bs p.0 p.1 first) (hexed_more j k v w p.0 d p.1 rest value (hexed (suc j) k (v * 16 + d) w p.1 rest after))))

-- all the digits of a number
pub record Hex (w : ℕ) (bs rest : List ℕ) : Type 0 where
  pub text : bs ≡ hex w ++ rest
  pub small : w < 2 ^ 64

pub hex_text : (w : ℕ) (bs rest : List ℕ) → bits_of bs ≡ Some (w, rest) → Hex w bs rest
unfolding hex_digits
hex_text w bs rest e =
    let x = hexed 0 16 0 w bs rest e in
    record { text = x.text; small = x.small (omega arith) }

-- ---- written, then read
digits_read : (k m n : ℕ) (rest : List ℕ) → n < 16 ^ k → bits_after (k + m) 0 (hex_digits k n ++ rest) ≡ bits_after m n rest
unfolding hex_digits bits_after
digits_read nought m n rest h =
    let z : n ≡ 0 = omega arith in
    let e : 0 + m ≡ m = omega arith in
    rw (e, z)
digits_read (suc k) m n rest h =
    let e : suc k + m ≡ k + suc m = omega arith in
    let d : n % 16 < 16 = omega arith in
    let s : n / 16 * 16 + n % 16 ≡ n = omega arith in
    rw (e, append_snoc (hex_digits k (n / 16)) (hex_digit (n % 16)) rest, digits_read k (suc m) (n / 16) (hex_digit (n % 16) ∷ rest) (omega (arith, pow-suc 16 k)), hex_value-digit (n % 16) d, s)

pub hex_read : (n : ℕ) (rest : List ℕ) → n < 2 ^ 64 → bits_of (hex n ++ rest) ≡ Some (n, rest)
unfolding bits_after
hex_read n rest h = digits_read 16 0 n rest h
