-- Texts of picture 0 and of picture 1 are in order as their numbers are.
-- Assumes nothing.
use mathlib.Core.Path.{◌≡◌, refl, sym, ap, subst, ◌∙◌}
use mathlib.Core.Bool.{cond}
use mathlib.Core.List.{List, [], ◌∷◌}
use Prim.Native.Nat.{ℕ, ◌+◌, ◌-◌, ◌≤◌}
use native.Mathlib.Omega.{arith}
use lib.Dec.{eqb}
use lib.ListN.{length, take, get_or}
use Rattle.laws.specs.Order.{Less}
use Rattle.laws.proofs.Order.{less_cut, reflects}
use Rattle.digits.specs.Bytes.{ascii}
use Rattle.digits.proofs.Sorted.{at_widths, Fit, widths_less}
use Rattle.pictures.specs.declared.Date.{Date}
use Rattle.pictures.specs.declared.Date.TheVariants.{Numbered, OfYear, Named}
use Rattle.pictures.specs.declared.Fields.{Fields}
use Rattle.pictures.specs.Pictures.{fraction_text, picture_text, WellFormed}
use Rattle.pictures.specs.Promise.{showing, numbers_of, picture_of, TextsSorted}
use Rattle.pictures.proofs.Fraction.{fraction_length, fraction_right}
use Rattle.pictures.proofs.Promise.{before_point, cut_text}

-- ---- with six digits a text is its numbers at fixed widths

abbrev dated : Fields → Date → Fields
dated f d = record { year = f.year; date = d; hour = f.hour; minute = f.minute; second = f.second; digits = f.digits; micro = f.micro }

-- how wide each number of picture 0 or 1 is, and what stands behind it
widths : ℕ → List (ℕ × List ℕ)
widths p =
    let clock : List (ℕ × List ℕ) = (2, ascii ":") ∷ (2, ascii ":") ∷ (2, ascii ".") ∷ (6, []) ∷ [] in
    (4, ascii "-") ∷ cond (eqb p 0) ((2, ascii "-") ∷ (2, ascii "T") ∷ clock) ((3, ascii "T") ∷ clock)

at_widths_lem : (f : Fields) (d : Date) → picture_of d ≤ 1 → picture_text (showing 6 (dated f d)) ≡ at_widths (widths (picture_of d)) (numbers_of (dated f d))
unfolding picture_text widths
at_widths_lem f (Numbered m d) l = refl
at_widths_lem f (OfYear d) l = refl
at_widths_lem f (Named m d) l = absurd (omega arith)

all_fit : (f : Fields) (d : Date) → picture_of d ≤ 1 → WellFormed (showing 6 (dated f d)) → Fit (widths (picture_of d)) (numbers_of (dated f d))
unfolding widths
all_fit f (Numbered m d) l w = (w.year, (w.date.0, (w.date.1, (w.hour, (w.minute, (w.second, (w.micro, tt)))))))
all_fit f (OfYear d) l w = (w.year, (w.date, (w.hour, (w.minute, (w.second, (w.micro, tt))))))
all_fit f (Named m d) l w = absurd (omega arith)

-- ---- with fewer it is a front of that

-- where a picture's point stands
point : ℕ → ℕ
point p = get_or (19 ∷ 17 ∷ 20 ∷ []) p 0

points : (f : Fields) (d : Date) → before_point (dated f d) ≡ point (picture_of d)
unfolding point
points f (Numbered m d) = refl
points f (OfYear d) = refl
points f (Named m d) = refl

abbrev size : ℕ → ℕ → ℕ
size n k = n + length (fraction_text k 0)

front : (f : Fields) (n k : ℕ) → before_point f ≡ n → k ≤ 6 → picture_text (showing k f) ≡ take (size n k) (picture_text (showing 6 f))
front f n k e h =
    let digits : size n k - (n + 1) ≡ k = omega (arith, fraction_length k 0 h) in
    sym (cut_text f n (size n k) e (fraction_right n k 0 h) ∙ ap (λ (j : ℕ). picture_text (showing j f)) digits)

-- ---- so texts are in order

module _ (k : ℕ) (l : k ≤ 1) where
  text : (f : Fields) → picture_of f.date ≡ k → picture_text (showing 6 f) ≡ at_widths (widths k) (numbers_of f)
  text f p = at_widths_lem f f.date (omega arith) ∙ ap (λ (j : ℕ). at_widths (widths j) (numbers_of f)) p

  fit : (f : Fields) → picture_of f.date ≡ k → WellFormed (showing 6 f) → Fit (widths k) (numbers_of f)
  fit f p w = subst (λ (j : ℕ). Fit (widths j) (numbers_of f)) p (all_fit f f.date (omega arith) w)

  module _ (f g : Fields) (p : picture_of f.date ≡ k) (q : picture_of g.date ≡ k) where
    same : numbers_of f ≡ numbers_of g → picture_text (showing 6 f) ≡ picture_text (showing 6 g)
    same e = text f p ∙ ap (at_widths (widths k)) e ∙ sym (text g q)

    six : WellFormed (showing 6 f) → WellFormed (showing 6 g) → Less (numbers_of f) (numbers_of g) → Less (picture_text (showing 6 f)) (picture_text (showing 6 g))
    six w v h = rw (text f p, text g q) (widths_less (widths k) (numbers_of f) (numbers_of g) (fit f p w) (fit g q v) h)

pub texts_sorted : TextsSorted
texts_sorted f g w v p l =
    let k = picture_of f.date in
    record {
      six = six k l f g refl (sym p) w v;
      any = λ d h q.
          let n = before_point f in
          let e : before_point g ≡ n = points g g.date ∙ ap point (sym p) ∙ sym (points f f.date) in
          reflects (same k l f g refl (sym p)) (six k l g f (sym p) refl v w)
          (less_cut (size n d) (picture_text (showing 6 f)) (picture_text (showing 6 g)) (rw (front f n d refl h, front g n d e h) at q));
    }
