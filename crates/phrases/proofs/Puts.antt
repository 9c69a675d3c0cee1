-- Texts put one behind another.
-- Assumes nothing.
use mathlib.Core.Path.{◌≡◌, refl, sym, ap, subst, ◌∙◌}
use mathlib.Core.List.{List, [], ◌++◌, append_assoc, append-nil}
use Prim.Native.Nat.{ℕ, ◌+◌, ◌-◌, ◌≤◌, ◌<◌, min}
use native.Mathlib.Nat.{zero-add}
use native.Mathlib.Omega.{arith}
use borrow.Author.Tests.{lt-leb}
use lib.ListN.{length, take, drop, length-append, length-take, drop_of_length-le}
use lib.Seq.{take_all, take_at, take-append-le, take-append_seam, take-append-add, length-take-le}
use Rattle.laws.specs.Placed.{place}
use Rattle.laws.proofs.Cases.{by_order}
use Rattle.laws.proofs.Placed.{length_place, place_none, place_then}
use Rattle.digits.specs.Bytes.{end_of, appended, Appended}
use Rattle.digits.proofs.Bytes.{placed}
use Rattle.phrases.specs.Puts.{put_end, put_into, Puts}

module _ (l : List ℕ) (i : ℕ) (a : List ℕ) where
  -- where it fits
  pub fits_end : i + length a ≤ length l → put_end l i a ≡ i + length a
  unfolding put_end
  fits_end h = omega arith

  pub fits_into : i + length a ≤ length l → put_into l i a ≡ place l i a
  unfolding put_into
  fits_into h = take_all (length l) (place l i a) (omega (arith, length_place l i a h))

  -- where it is cut off
  pub cut_end : length l ≤ i + length a → put_end l i a ≡ length l
  unfolding put_end
  cut_end h = omega arith

  pub cut_into : length l ≤ i + length a → put_into l i a ≡ take (length l) (take i l ++ a)
  unfolding put_into
  cut_into h = rw (drop_of_length-le l h, append-nil)

  cut_length : length l ≤ i + length a → length l ≤ length (take i l ++ a)
  cut_length h = simp (length-append, length-take) (omega arith)

  pub size_into : length (put_into l i a) ≡ length l
  size_into =
      by_order (length l) (i + length a)
      (λ h. let g : length l ≤ i + length a = omega arith in ap length (cut_into g) ∙ length-take-le (length l) (take i l ++ a) (cut_length g))
      (λ h. ap length (fits_into h) ∙ length_place l i a h)

  pub end_inside : put_end l i a ≤ length l
  unfolding put_end
  end_inside = omega arith

-- from the two equations
pub puts : (l : List ℕ) (i : ℕ) (a : List ℕ) {r : ℕ} {o : List ℕ} → r ≡ put_end l i a → o ≡ put_into l i a → Puts l i a r o
puts l i a {r} {o} p q =
    let n : r ≤ length o = omega (arith, end_inside l i a, size_into l i a, ap length q) in
    record { end = p; bytes = q; counts = (n, sym (length-take-le r o n)) }

-- the same text by another name
pub puts_as : {l : List ℕ} {i : ℕ} {a b : List ℕ} {r : ℕ} {o : List ℕ} → a ≡ b → Puts l i a r o → Puts l i b r o
puts_as {l} {i} {r = r} {o = o} e = subst (λ (x : List ℕ). Puts l i x r o) e

-- ---- one text: what is appended is as much of it as there is room for

module _ (l : List ℕ) (i : ℕ) (a : List ℕ) {k r : ℕ} {o : List ℕ} (n : k ≡ min (length l - min i (length l)) (length a)) (p : Appended l i (take k a) r o) where
  whole : i + length a ≤ length l → Puts l i a r o
  whole h =
      let e : take k a ≡ a = take_all k a (omega arith) in
      let q = placed l i a h (subst (λ (x : List ℕ). Appended l i x r o) e p) in
      puts l i a (q.end ∙ sym (fits_end l i a h)) (q.text ∙ sym (fits_into l i a h))

  part : i ≤ length l → length l < i + length a → Puts l i a r o
  part g h =
      let c : length l ≤ i + length a = omega arith in
      let s : length (take k a) ≡ k = length-take-le k a (omega arith) in
      let q = placed l i (take k a) (omega arith) p in
      let d : i + length (take k a) ≡ length l = omega arith in
      let j : length l ≡ length (take i l) + k = omega (arith, length-take-le i l g) in
      let e : length l ≤ i + length (take k a) = omega arith in
      puts l i a (q.end ∙ d ∙ sym (cut_end l i a c))
      (q.text ∙ rw (drop_of_length-le l e, append-nil, cut_into l i a c, j, take-append-add) refl)

  past : length l < i → Puts l i a r o
  unfolding end_of appended
  past h =
      let c : length l ≤ i + length a = omega arith in
      let f : length l < i + length (take k a) = omega arith in
      let d : min i (length l) ≡ length l = omega arith in
      let g : length l ≤ i = omega arith in
      puts l i a (p.end ∙ rw (lt-leb (i + length (take k a)) (length l) f) (d ∙ sym (cut_end l i a c)))
      (p.text ∙ rw (lt-leb (i + length (take k a)) (length l) f) (sym (cut_into l i a c ∙ ap (λ (x : List ℕ). take (length l) (x ++ a)) (take_all i l g) ∙ take-append_seam l a)))

  pub put_cut : Puts l i a r o
  put_cut = by_order (length l) i past (λ g. by_order (length l) (i + length a) (part g) whole)

-- ---- two texts, one behind the other

module _ {l : List ℕ} {i : ℕ} {a b : List ℕ} {j k : ℕ} {m n : List ℕ} (p : Puts l i a j m) (q : Puts m j b k n) where
  same_size : length m ≡ length l
  same_size = ap length p.bytes ∙ size_into l i a

  -- the first is whole
  module _ (h : i + length a ≤ length l) where
    first : m ≡ place l i a
    first = p.bytes ∙ fits_into l i a h

    first_end : j ≡ i + length a
    first_end = p.end ∙ fits_end l i a h

    both : j + length b ≤ length l → Puts l i (a ++ b) k n
    both g =
        let f : j + length b ≤ length m = omega (arith, same_size) in
        let e : i + length (a ++ b) ≤ length l = simp length-append (omega (arith, first_end)) in
        let d : j + length b ≡ i + length (a ++ b) = simp length-append (omega (arith, first_end)) in
        puts l i (a ++ b) (q.end ∙ fits_end m j b f ∙ d ∙ sym (fits_end l i (a ++ b) e))
        (q.bytes ∙ fits_into m j b f ∙ place_then l i a b first first_end g ∙ sym (fits_into l i (a ++ b) e))

    second_cut : length l < j + length b → Puts l i (a ++ b) k n
    second_cut g =
        let f : length m ≤ j + length b = omega (arith, same_size) in
        let e : length l ≤ i + length (a ++ b) = simp length-append (omega (arith, first_end)) in
        let s : length (take i l ++ a) ≡ j = simp (length-append, length-take) (omega (arith, first_end)) in
        let t : take j m ≡ take i l ++ a = ap (take j) first ∙ rw (← append_assoc (take i l) a) (take_at (take i l ++ a) (drop (i + length a) l) j s) in
        puts l i (a ++ b) (q.end ∙ cut_end m j b f ∙ same_size ∙ sym (cut_end l i (a ++ b) e))
        (q.bytes ∙ cut_into m j b f ∙ rw (same_size, t, append_assoc) (sym (cut_into l i (a ++ b) e)))

  -- the first is cut off, and nothing of the second is left
  first_cut : length l < i + length a → Puts l i (a ++ b) k n
  first_cut g =
      let h : length l ≤ i + length a = omega arith in
      let f : j ≡ length l = p.end ∙ cut_end l i a h in
      let c : length m ≤ j + length b = omega (arith, same_size) in
      let e : length l ≤ i + length (a ++ b) = simp length-append (omega arith) in
      let s : length l ≤ length (take i l ++ a) = cut_length l i a h in
      let t : length m ≤ j = omega (arith, same_size) in
      puts l i (a ++ b) (q.end ∙ cut_end m j b c ∙ same_size ∙ sym (cut_end l i (a ++ b) e))
      (q.bytes ∙ cut_into m j b c ∙ rw (take_all j m t, take-append_seam) (p.bytes ∙ cut_into l i a h ∙ sym (cut_into l i (a ++ b) e ∙ rw (← append_assoc (take i l) a b) (take-append-le (length l) (take i l ++ a) b s))))

  pub then : Puts l i (a ++ b) k n
  then = by_order (length l) (i + length a) first_cut (λ h. by_order (length l) (j + length b) (second_cut h) (both h))

-- nothing is put
pub puts_none : (l : List ℕ) (i : ℕ) → i ≤ length l → Puts l i [] i l
puts_none l i h =
    let g : i + length {A = ℕ} [] ≤ length l = omega arith in
    let e : i ≡ i + length {A = ℕ} [] = omega arith in
    puts l i [] (e ∙ sym (fits_end l i [] g)) (sym (fits_into l i [] g ∙ place_none l i))

-- a text that fits stands in front
pub in_front : (l a : List ℕ) {r : ℕ} {o : List ℕ} → length a ≤ length l → Appended l 0 a r o → take r o ≡ a
in_front l a {r} {o} h p =
    let q = placed l 0 a (omega arith) p in
    let e : r ≡ length a = q.end ∙ zero-add (length a) in
    rw (e, q.text) (take_at a (drop (0 + length a) l) (length a) refl)
