-- The places of commits, and the actions that calls were made in.
use Rattle.std.proofs.Common.{◌≡◌, ◌<◌, ℕ, List, [], ◌∷◌, Bool, true, false, cond, ◌&&◌, ◌||◌, ◌==◌, Option, Some, None, refl, sym, ◌∙◌, subst, arith}
use Rattle.std.proofs.lemmas.Bool.{eqb-true}
use Rattle.std.specs.List.{AllByRecursion, list_all}
use Rattle.arj_base.specs.declared.uid.Uid.{Uid}
use Rattle.arj_journal.specs.declared.body.Line.{Line}
use Rattle.arj_law.proofs.Common.{Pairwise, all_filter_map, never, read_rises}
use Rattle.arj_model.specs.Actions.{Act, Placed, chain_in, committed, committed_of, has_end, is_committed, recovered, top_in}
use Rattle.arj_model.specs.Calls.{Call, Said, call_of, committed_calls, ids, kept, kept_in, said}
use Rattle.arj_model.specs.Nested.{commit_place}

-- each action that a surviving call was made in is committed
ends_of : (ends : List (Placed ℕ)) (path : List Act) → list_all (λ a. has_end ends a.id) path ≡ true →
    AllByRecursion (λ a. has_end ends a ≡ true) (ids path)
ends_of ends [] e = tt
ends_of ends (a ∷ path) e = by (ends_of ends path) (has_end ends a.id) refl e
  where
    by : (list_all (λ a. has_end ends a.id) path ≡ true → AllByRecursion (λ a. has_end ends a ≡ true) (ids path)) → (b : Bool) → has_end ends a.id ≡ b → (b && list_all (λ a. has_end ends a.id) path) ≡ true →
        AllByRecursion (λ a. has_end ends a ≡ true) (ids (a ∷ path))
    by ih true is g = (is, ih g)
    by ih false is g = never false g refl

kept_ends : (ends : List (Placed ℕ)) (found : List (Placed Uid)) (s : Placed Said) (c : Call) → kept ends found s ≡ Some c →
    AllByRecursion (λ a. has_end ends a ≡ true) c.chain
kept_ends ends found s c e = by (top_in s.it.path) e
  where
    from : (top : Act) (l : Bool) → list_all (λ a. has_end ends a.id) (chain_in s.it.path) ≡ l → (b : Bool) →
        cond (l && b) (Some (call_of s top)) None ≡ Some c → AllByRecursion (λ a. has_end ends a ≡ true) c.chain
    from top true is true g = let same : call_of s top ≡ c = cc g in
        subst (λ d. AllByRecursion (λ a. has_end ends a ≡ true) d.chain) same (ends_of ends (chain_in s.it.path) is)
    from top true is false g = absurd (cc g)
    from top false is b g = absurd (cc g)

    by : (o : Option Act) → kept_in ends found s o ≡ Some c → AllByRecursion (λ a. has_end ends a ≡ true) c.chain
    by None g = absurd (cc g)
    by (Some top) g = from top (list_all (λ a. has_end ends a.id) (chain_in s.it.path)) refl (is_committed ends found top) g

all_true : {A : Type 0} (xs : List A) → AllByRecursion (λ x. Unit {0}) xs
all_true [] = tt
all_true (x ∷ xs) = (tt, all_true xs)

-- so it is of each surviving call of a committed top
pub chains_end : (lines : List Line) → AllByRecursion (λ c. AllByRecursion (λ a. has_end (committed lines) a ≡ true) c.chain) (committed_calls lines)
chains_end lines = all_filter_map (λ s. Unit {0}) (λ c. AllByRecursion (λ a. has_end (committed lines) a ≡ true) c.chain)
    (kept (committed lines) (recovered lines)) (λ s c t e. kept_ends (committed lines) (recovered lines) s c e) (said lines) (all_true (said lines))

-- an action that ends among these is committed behind a place where they all stand behind it
later_place : (n : ℕ) (es : List (Placed ℕ)) (a : ℕ) → AllByRecursion (λ e. n < e.at) es → has_end es a ≡ true → n < commit_place es a
later_place n [] a l h = never false h refl
later_place n (e ∷ es) a l h = by (later_place n es a l.1) (e.it == a) h
  where
    by : (has_end es a ≡ true → n < commit_place es a) → (b : Bool) → (b || has_end es a) ≡ true → n < cond b e.at (commit_place es a)
    by ih true g = l.0
    by ih false g = ih g

-- two actions that are committed at one place are one
one_place : (es : List (Placed ℕ)) → Pairwise (λ s t. s.at < t.at) es → (a b : ℕ) → has_end es a ≡ true → has_end es b ≡ true →
    commit_place es a ≡ commit_place es b → a ≡ b
one_place [] p a b h k e = never false h refl
one_place (x ∷ es) p a b h k e = by (one_place es p.1 a b) (x.it == a) refl (x.it == b) refl h k e
  where
    by : (has_end es a ≡ true → has_end es b ≡ true → commit_place es a ≡ commit_place es b → a ≡ b) → (s : Bool) → (x.it == a) ≡ s → (t : Bool) → (x.it == b) ≡ t → (s || has_end es a) ≡ true → (t || has_end es b) ≡ true →
        cond s x.at (commit_place es a) ≡ cond t x.at (commit_place es b) → a ≡ b
    by ih true f true g i j same = sym (eqb-true x.it a f) ∙ eqb-true x.it b g
    by ih true f false g i j same = absurd (let l : x.at < commit_place es b = later_place x.at es b p.0 j in omega (arith, l, same))
    by ih false f true g i j same = absurd (let l : x.at < commit_place es a = later_place x.at es a p.0 i in omega (arith, l, same))
    by ih false f false g i j same = ih i j same

pub one_commit : (lines : List Line) (a b : ℕ) → has_end (committed lines) a ≡ true → has_end (committed lines) b ≡ true →
    commit_place (committed lines) a ≡ commit_place (committed lines) b → a ≡ b
one_commit lines = one_place (committed lines) (read_rises committed_of [] 0 lines)
