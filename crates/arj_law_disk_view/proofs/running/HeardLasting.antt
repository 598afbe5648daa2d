-- What survives in a top, or is retained by its root, isn't spent while these aren't aborted.
use Rattle.arj_law_parts.proofs.Words
use Words.{◌≡◌, ◌∙◌, ◌||◌, ℕ, Bool, true, false, cond, not, List, [], ◌∷◌, Option, Some, None, refl, sym, ap, Contains, list_any, and_parts}
use Words.{or_parts, uid_same, End, Uid, uid_eq, Coord, Root, Said, is_constituent_branch, is_kept_top, is_retained, survives, Branch, Tree}
use Words.{behind, branch_of, ended_so, has_end, is_aborted, is_committed, is_merged, is_spent}
use Words.ending
use Rattle.arj_law_disk_view.proofs.Terms.{IsLasting}

unaborted : (o : Option Branch) → ended_so ending.Commit o ≡ true → ended_so ending.Abort o ≡ false
unaborted None is = absurd (cc is)
unaborted (Some b) is = by b.ended is
  where
    by : (o : Option End) → has_end ending.Commit o ≡ true → has_end ending.Abort o ≡ false
    by None h = refl
    by (Some ending.Commit) h = refl
    by (Some ending.Abort) h = absurd (cc h)

negated : (b : Bool) → not b ≡ false → b ≡ true
negated true h = refl
negated false h = absurd (cc h)

-- committed actions aren't aborted
all_merged : (t : Tree) (us : List Uid) → list_any (λ w. not (is_committed w t)) us ≡ false → list_any (λ w. is_aborted w t) us ≡ false
all_merged t [] all = refl
all_merged t (u ∷ us) all =
    let p = or_parts (not (is_committed u t)) (list_any (λ w. not (is_committed w t)) us) all in
    λ i. unaborted (branch_of u t) (negated (is_committed u t) p.0) i || all_merged t us p.1 i

negates : (b : Bool) → not b ≡ true → b ≡ false
negates true h = absurd (cc h)
negates false h = refl

-- a path that begins with the top
pub alone_lives : (t : Uid) (path rest : List Uid) (c : Coord) → path ≡ t ∷ rest → is_aborted t c.tree ≡ false → survives t path c ≡ true →
    is_spent path c.tree ≡ false
alone_lives t path rest c is free lives = ap (λ us. is_spent us c.tree) is ∙ (λ i. free i || all_merged c.tree rest merged i)
  where
    its : is_merged t (t ∷ rest) c.tree ≡ true
    its = ap (λ us. is_merged t us c.tree) (sym is) ∙ (and_parts (list_any (λ w. uid_eq w t) path) (is_merged t path c.tree) lives).1

    merged : list_any (λ w. not (is_committed w c.tree)) rest ≡ false
    merged = ap (λ b. list_any (λ w. not (is_committed w c.tree)) (cond b rest (behind t rest))) (sym (uid_same t))
        ∙ negates (list_any (λ w. not (is_committed w c.tree)) (behind t (t ∷ rest))) its

-- a path on which the top is the second
below_merged : (root t : Uid) (rest : List Uid) (v : Tree) → is_merged t (root ∷ t ∷ rest) v ≡ true →
    list_any (λ w. not (is_committed w v)) rest ≡ false
below_merged root t rest v its = by (uid_eq root t) (negates (list_any (λ w. not (is_committed w v)) (behind t (root ∷ t ∷ rest))) its)
  where
    second : behind t (t ∷ rest) ≡ rest
    second = ap (λ b. cond b rest (behind t rest)) (uid_same t)

    by : (b : Bool) → list_any (λ w. not (is_committed w v)) (cond b (t ∷ rest) (behind t (t ∷ rest))) ≡ false →
        list_any (λ w. not (is_committed w v)) rest ≡ false
    by true h = (or_parts (not (is_committed t v)) (list_any (λ w. not (is_committed w v)) rest) h).1
    by false h = ap (list_any (λ w. not (is_committed w v))) (sym second) ∙ h

pub below_lives : (root t : Uid) (path rest : List Uid) (c : Coord) → path ≡ root ∷ t ∷ rest → is_aborted root c.tree ≡ false →
    is_aborted t c.tree ≡ false → survives t path c ≡ true → is_spent path c.tree ≡ false
below_lives root t path rest c is free of lives =
    let merged = below_merged root t rest c.tree
    (ap (λ us. is_merged t us c.tree) (sym is) ∙ (and_parts (list_any (λ w. uid_eq w t) path) (is_merged t path c.tree) lives).1) in
    ap (λ us. is_spent us c.tree) is ∙ (λ i. free i || (of i || all_merged c.tree rest merged i))

-- What a root retains isn't spent while the root isn't aborted, which begins the paths of its calls.
pub lasting : (x : ℕ) (root : Uid) (c : Coord) (r : Root) → is_aborted root c.tree ≡ false →
    ((s : Said) → Contains r.said s → s.x ≡ x → (rest : List Uid) × (s.path ≡ root ∷ rest)) → IsLasting x c r
lasting x root c r free headed =
    record { retained = λ s i is on. let h = headed s i is in by h.0 s.path h.1 (ap (λ us. is_retained us c) (sym h.1) ∙ on) }
  where
    by : (rest path : List Uid) → path ≡ root ∷ rest → is_retained (root ∷ rest) c ≡ true → is_spent path c.tree ≡ false
    by [] path is on = absurd (cc on)
    by (t ∷ rest) path is on =
        let p = and_parts (is_kept_top t c) (survives t (root ∷ t ∷ rest) c) on in
        below_lives root t path rest c is free (unaborted (branch_of t c.tree)
        (and_parts (is_constituent_branch (branch_of t c.tree)) (is_committed t c.tree) p.0).1) (ap (λ us. survives t us c) is ∙ p.1)
