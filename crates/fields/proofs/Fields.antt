-- A field is what its word gives, at the word's end; its value fits where the word's does.
-- Assumes nothing.
use mathlib.Core.Path.{◌≡◌, ap, ap₂, ◌∙◌}
use mathlib.Core.Bool.{Bool}
use mathlib.Core.List.{List}
use Prim.Native.Nat.{ℕ, ◌^◌, ◌≤◌, ◌<◌}
use native.Mathlib.Omega.{arith}
use lib.ListN.{length}
use mir.Syntax.{Width}
use mir.Val.{SFits, hbits}
use Rattle.std.specs.Prelude.{Option, Some, None}
use lib.IntN.{ℤ, pos}
use Rattle.digits.specs.Decimals.{Within}
use Rattle.fields.specs.declared.Cursor.{Cursor}
use Rattle.fields.specs.Words.{word_at, end_at, natural_of, integer_of}
use Rattle.fields.specs.Fields.{field_of, field_at, natural_at}
use Rattle.fields.proofs.Words.{natural_within, Fitting, integer_fits}

-- one law for every kind of field
module _ {A F : Type 0} (read : List ℕ → A) (made : A → Bool → ℕ → ℕ → F) (s : List ℕ) (c : Cursor) where
  pub field_is : {w : List ℕ} {e : ℕ} {a : A} {f : F} → f ≡ made a c.fine e (length s) → a ≡ read w → w ≡ word_at s c.at → e ≡ end_at s c.at → f ≡ field_at read made s c
  field_is p q r t = p ∙ ap₂ (λ (x : A) (n : ℕ). made x c.fine n (length s)) (q ∙ ap read r) t

field_within : (most : ℕ) (a : Option ℕ) (fine : Bool) (end size : ℕ) → Within most a → (field_of 0 a fine end size).value ≤ most
field_within most (Some n) fine end size h = h
field_within most None fine end size h = omega arith

pub natural_most : (most : ℕ) (s : List ℕ) (c : Cursor) → (natural_at most s c).value ≤ most
unfolding natural_at
natural_most most s c =
    let w = word_at s c.at in
    field_within most (natural_of most w) c.fine (end_at s c.at) (length s) (natural_within most w)

module _ (w : Width) (most : ℕ) (h : most < 2 ^ hbits w) where
  signed_fits : (a : Option ℤ) (fine : Bool) (end size : ℕ) → Fitting w a → SFits w (field_of (pos 0) a fine end size).value
  signed_fits (Some z) fine end size k = k
  signed_fits None fine end size k = record { sfits = omega arith }

  pub field_fits : (s : List ℕ) (fine : Bool) (end size : ℕ) → SFits w (field_of (pos 0) (integer_of most s) fine end size).value
  field_fits s fine end size = signed_fits (integer_of most s) fine end size (integer_fits w most h s)
