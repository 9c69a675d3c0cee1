-- The same reply by another name.
-- Assumes nothing.
use mathlib.Core.Path.{◌≡◌, subst}
use mathlib.Core.List.{List}
use Prim.Native.Nat.{ℕ}
use Rattle.phrases.specs.declared.Said.{Said}
use Rattle.phrases.specs.Replies.{Reply, Says}

pub says_as : {l : List ℕ} {i : ℕ} {a b : Reply} {r : Said} {o : List ℕ} → a ≡ b → Says l i a r o → Says l i b r o
says_as {l} {i} {r = r} {o = o} e = subst (λ (x : Reply). Says l i x r o) e
