-- The rows of the table as the code holds them, in units of 2 ^ -61.
use Rattle.std.specs.Prelude.{ℕ, ◌+◌, ◌-◌, ◌*◌, ◌^◌, min}
use Rattle.arctan_table.specs.Table.{Coef, more, less, Coefs, coefs_at}
use Rattle.arctan.specs.declared.table.Row.{Row}

-- a coefficient as it is, where it is not below 0; and with 2 added, so that none has a sign
unfoldable pub plain : Coef → ℕ
plain (more n) = 256 * n
plain (less n) = 0

unfoldable pub raised : Coef → ℕ
raised (more n) = 2 ^ 62 + 256 * n
raised (less n) = 2 ^ 62 - 256 * n

unfoldable pub row_from : Coefs → Row
unfolding plain raised
row_from k =
    record {
      a0 = plain k.k0;
      a1 = plain k.k1;
      a2 = raised k.k2;
      a3 = raised k.k3;
      a4 = raised k.k4;
      a5 = raised k.k5;
      a6 = raised k.k6;
      a7 = raised k.k7;
      a8 = raised k.k8;
      a9 = raised k.k9;
    }

-- past the last row the last one stands
unfoldable pub row_at : ℕ → Row
unfolding coefs_at row_from
row_at j = row_from (coefs_at (min j 32))
