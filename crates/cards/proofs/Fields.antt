-- The tests of the reader one by one, over plain values.
-- Assumes nothing.
use Prim.Native.Nat.{ℕ, ◌+◌, ◌-◌, ◌*◌, ◌/◌, ◌≤◌, ◌<◌}
use mathlib.Core.Path.{◌≡◌, refl, ap, ap₂, ◌∙◌}
use mathlib.Core.Bool.{Bool, true, false, cond}
use mathlib.Core.List.{List}
use native.Mathlib.Omega.{arith}
use borrow.Author.Tests.{le-leb, lt-leb}
use lib.ListN.{get_or}
use Rattle.std.specs.Prelude.{Some, None}
use Rattle.std.specs.Bool.{then_some}
use Rattle.digits.specs.Bytes.{same_bytes}
use Rattle.digits.specs.Decimals.{digit_value, spelled, number_at}
use Rattle.digits.proofs.Bytes.{same_is}
use Rattle.cards.specs.Card.{last_card_month, card_date}
use Rattle.cards.specs.Reading.{year_in, month_in, date_in}

-- ---- the date

-- the digits of a day
pub three : (s : List ℕ) {a b c : ℕ} → a ≡ digit_value (get_or s 2 0) → b ≡ digit_value (get_or s 3 0) → c ≡ digit_value (get_or s 4 0) → (a * 10 + b) * 10 + c ≡ number_at s 2 3
unfolding spelled
three s p q r = rw (p, q, r) (omega arith)

pub month_is_lem : (s : List ℕ) {y d : ℕ} → y ≡ year_in s → d ≡ number_at s 2 3 → 12 * (y - 1972) + d / 30 ≡ month_in s
month_is_lem s p q = ap₂ (λ y d. 12 * (y - 1972) + d / 30) p q

module _ (s : List ℕ) {y : ℕ} (e : y ≡ year_in s) where
  pub early : y < 1972 → None ≡ date_in s
  unfolding date_in
  early l = rw (lt-leb 1972 (year_in s) (omega arith))

  module _ (l : 1972 ≤ y) {m : ℕ} (p : m ≡ month_in s) where
    pub late : last_card_month < m → None ≡ date_in s
    unfolding date_in
    late h = rw (le-leb 1972 (year_in s) (omega arith), lt-leb (month_in s) last_card_month (omega arith))

    module _ (h : m ≤ last_card_month) where
      compared : {r : Bool} → r ≡ same_bytes (card_date m) s → cond r (Some m) None ≡ date_in s
      unfolding date_in
      compared q =
          rw (le-leb 1972 (year_in s) (omega arith), le-leb (month_in s) last_card_month (omega arith))
          (ap₂ (λ b k. cond b (Some k) None) (q ∙ ap (λ k. same_bytes (card_date k) s) p) p)

      module _ {r : Bool} (f : r ≡ true → card_date m ≡ s) (g : card_date m ≡ s → r ≡ true) where
        pub date_is : then_some r m ≡ date_in s
        date_is = given r ∙ compared (same_is r (card_date m) s f g)
          where
            given : (b : Bool) → then_some b m ≡ cond b (Some m) None
            given true = refl
            given false = refl
