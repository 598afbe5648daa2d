-- Actions of a journal have the numbers of their places, and what a journal says of one it says behind its beginning.
use Rattle.arj_law_parts.proofs.Words
use Words.{◌≡◌, ◌≤◌, ◌<◌, ℕ, ◌+◌, List, [], ◌∷◌, length, Option, Some, None, refl, sym, ◌∙◌, ap, subst, inl, inr, arith, Body, Line, In}
use Words.{name}
use Rattle.arj_law_lock_view.proofs.Terms
use Terms.{option_map, Begun, Halt, Placed, act_in, acts, acts_after, begun_of, committed_of, ended_of, halt_of, numbered, put, read}
use Terms.{called_of, named_in}
use Terms.body
use Rattle.arj_model.specs.Actions.{Act, acts_from, id_in}
use Rattle.std.specs.Bool.{⊤}

abbrev pub AreNumbered : List Act → Type 0
AreNumbered [] = ⊤
AreNumbered (a ∷ older) = (a.id ≡ length older) × AreNumbered older

numbered_turn : (us : List Act) (o : Option Begun) → AreNumbered us → AreNumbered (numbered us o)
numbered_turn us None s = s
numbered_turn us (Some b) s = (refl, s)

pub numbered_all : (us : List Act) (ls : List Line) → AreNumbered us → AreNumbered (acts_from us ls)
numbered_all us [] s = s
numbered_all us (l ∷ ls) s = numbered_all (acts_after us l.body) ls (numbered_turn us (begun_of l.body) s)

pub low : (us : List Act) (a : Act) → AreNumbered us → In a us → a.id < length us
low [] a s none = absurd none
low (x ∷ us) a s (inl is) = let e : x.id ≡ a.id = ap (λ (y : Act). y.id) is in omega (arith, e, s.0)
low (x ∷ us) a s (inr i) = omega (arith, low us a s.1 i)

-- an action is known by its number
pub one_id : (us : List Act) (a b : Act) → AreNumbered us → In a us → In b us → a.id ≡ b.id → a ≡ b
one_id [] a b s none j is = absurd none
one_id (x ∷ us) a b s (inl e) (inl f) is = sym e ∙ f
one_id (x ∷ us) a b s (inl e) (inr j) is =
    absurd (let l = low us b s.1 j in let k : x.id ≡ a.id = ap (λ (y : Act). y.id) e in omega (arith, l, k, is, s.0))
one_id (x ∷ us) a b s (inr i) (inl f) is =
    absurd (let l = low us a s.1 i in let k : x.id ≡ b.id = ap (λ (y : Act). y.id) f in omega (arith, l, k, is, s.0))
one_id (x ∷ us) a b s (inr i) (inr j) is = one_id us a b s.1 i j is

longer_turn : (us : List Act) (o : Option Begun) → length us ≤ length (numbered us o)
longer_turn us None = omega arith
longer_turn us (Some b) = omega arith

longer : (us : List Act) (ls : List Line) → length us ≤ length (acts_from us ls)
longer us [] = omega arith
longer us (l ∷ ls) = let a = longer_turn us (begun_of l.body) in let b = longer (acts_after us l.body) ls in omega (arith, a, b)

-- a reading whose items are below the count of actions
module _ {A : Type 0} (f : List Act → Body → Option A) (P : ℕ → A → Type 0) (up : (m n : ℕ) (a : A) → m ≤ n → P m a →
    P n a) (each : (us : List Act) (b : Body) (a : A) → AreNumbered us → f us b ≡ Some a → P (length us) a) where
  pub all_low : (us : List Act) (n : ℕ) (ls : List Line) → AreNumbered us → (e : Placed A) → In e (read f us n ls) →
      P (length (acts_from us ls)) e.it
  all_low us n [] s e none = absurd none
  all_low us n (l ∷ ls) s e i = by (all_low (acts_after us l.body) (n + 1) ls (numbered_turn us (begun_of l.body) s) e) (f us l.body) refl i
    where
      by : (In e (read f (acts_after us l.body) (n + 1) ls) → P (length (acts_from us (l ∷ ls))) e.it) → (o : Option A) → f us l.body ≡ o →
          In e (put n o (read f (acts_after us l.body) (n + 1) ls)) → P (length (acts_from us (l ∷ ls))) e.it
      by rest None is j = rest j
      by rest (Some a) is (inl same) = up (length us) (length (acts_from us (l ∷ ls))) e.it (longer us (l ∷ ls))
          (subst (P (length us)) (ap (λ (p : Placed A). p.it) same) (each us l.body a s is))
      by rest (Some a) is (inr j) = rest j

id_low : (us : List Act) (l : List ℕ) (k : ℕ) → AreNumbered us → id_in us l ≡ Some k → k < length us
id_low us l k s is = by (act_in us l) refl is
  where
    by : (o : Option Act) → act_in us l ≡ o → option_map (λ (a : Act). a.id) o ≡ Some k → k < length us
    by None found h = absurd (cc h)
    by (Some a) found h = let one : a.id ≡ k = cc h in let lower = low us a s (named_in us l a found) in omega (arith, one, lower)

raise : (m n k : ℕ) → m ≤ n → k < m → k < n
raise m n k more less = omega (arith, more, less)

called_each : (us : List Act) (b : Body) (k : ℕ) → AreNumbered us → called_of us b ≡ Some k → k < length us
called_each us (body.Committing l) k s is = id_low us (name l) k s is
called_each us b k s is = absurd (cc is)

committed_each : (us : List Act) (b : Body) (k : ℕ) → AreNumbered us → committed_of us b ≡ Some k → k < length us
committed_each us (body.Committed l) k s is = id_low us (name l) k s is
committed_each us b k s is = absurd (cc is)

ended_each : (us : List Act) (b : Body) (k : ℕ) → AreNumbered us → ended_of us b ≡ Some k → k < length us
ended_each us (body.Committed l) k s is = id_low us (name l) k s is
ended_each us (body.Ended l) k s is = id_low us (name l) k s is
ended_each us (body.Aborted l c) k s is = id_low us (name l) k s is
ended_each us b k s is = absurd (cc is)

halt_each : (us : List Act) (b : Body) (h : Halt) → AreNumbered us → halt_of us b ≡ Some h → h.begun ≤ length us
halt_each us (body.Halted n) h s is = let one : ◌≡◌ {A = Halt} (record { node = n; begun = length us }) h = cc is in
    let e : length us ≡ h.begun = ap (λ (y : Halt). y.begun) one in omega (arith, e)
halt_each us b h s is = absurd (cc is)

module _ (lines : List Line) where
  pub are_numbered : AreNumbered (acts lines)
  are_numbered = numbered_all [] lines tt

  pub called_low : (e : Placed ℕ) → In e (read called_of [] 0 lines) → e.it < length (acts lines)
  called_low = all_low called_of (λ n k. k < n) raise called_each [] 0 lines tt

  pub committed_low : (e : Placed ℕ) → In e (read committed_of [] 0 lines) → e.it < length (acts lines)
  committed_low = all_low committed_of (λ n k. k < n) raise committed_each [] 0 lines tt

  pub ended_low : (e : Placed ℕ) → In e (read ended_of [] 0 lines) → e.it < length (acts lines)
  ended_low = all_low ended_of (λ n k. k < n) raise ended_each [] 0 lines tt

  pub halts_low : (e : Placed Halt) → In e (read halt_of [] 0 lines) → (let h = e.it in h.begun) ≤ length (acts lines)
  halts_low = all_low halt_of (λ n (h : Halt). h.begun ≤ n) (λ m n h more less. omega (arith, more, less)) halt_each [] 0 lines tt
