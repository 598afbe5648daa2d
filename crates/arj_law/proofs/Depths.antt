-- Where an action stands on the paths of one journal: at one depth on all of them, whenever they were read.
use Rattle.arj_law.proofs.Terms
use Terms.{◌≡◌, ◌<◌, ◌≤◌, ℕ, suc, ◌+◌, List, [], ◌∷◌, ◌++◌, length, Bool, true, false, cond, ◌&&◌, ◌==◌, Option, Some, None, refl, sym, ◌∙◌}
use Terms.{ap, subst, arith, length-append, AllByRecursion, list_all, bytes_eq, eq-eqb, eqb-true, false_from_ne_true, Uid, Body, Kind, Line}
use Terms.{name, Act, Begun, Placed, begun_of, numbered, acts, acts_after, acts_from, read, put, path, upwards, top_in, chain_in}
use Terms.{has_end, is_committed, committed, recovered, Call, Said, said, said_of, ids, call_of, kept, kept_in, committed_calls}
use Terms.body
use Terms.kind
use Rattle.arj_law.proofs.Common.{all_map, all_filter_map}
use Rattle.arj_start.specs.Kinds.{is_serial}

-- each action's number is the count of those before it
abbrev pub AreNumbered : List Act → Type 0
AreNumbered [] = Unit {0}
AreNumbered (a ∷ older) = (a.id ≡ length older) × AreNumbered older

-- how many actions the path to the one with this number has
abbrev pub depth : List Act → ℕ → ℕ
depth [] id = 0
depth (a ∷ older) id = cond (a.id == id) (length (upwards a.parent a.kind (path older) ++ a ∷ [])) (depth older id)

-- the actions of a path stand one below the other, from below this depth on
abbrev pub StandAt : List Act → ℕ → List ℕ → Type 0
StandAt us n [] = Unit {0}
StandAt us n (i ∷ is) = (depth us i ≡ n + 1) × StandAt us (n + 1) is

abbrev pub AreBelow : ℕ → List ℕ → Type 0
AreBelow n is = AllByRecursion (λ i. i < n) is

stand_append : (us : List Act) (n : ℕ) (is : List ℕ) (i : ℕ) → StandAt us n is → depth us i ≡ n + length is + 1 →
    StandAt us n (is ++ i ∷ [])
stand_append us n [] i s e = (e ∙ omega arith, tt)
stand_append us n (j ∷ is) i s e = (s.0, stand_append us (n + 1) is i s.1 (e ∙ omega arith))

below_append : (n : ℕ) (is : List ℕ) (i : ℕ) → AreBelow n is → i < n → AreBelow n (is ++ i ∷ [])
below_append n [] i b lt = (lt, tt)
below_append n (j ∷ is) i b lt = (b.0, below_append n is i b.1 lt)

below_more : (m n : ℕ) (is : List ℕ) → m ≤ n → AreBelow m is → AreBelow n is
below_more m n is le b = all_map (λ i. i < m) (λ i. i < n) (λ i lt. omega (arith, lt, le)) is b

-- one more action leaves the depths of the others
stand_more : (us : List Act) (a : Act) (n : ℕ) (is : List ℕ) → a.id ≡ length us → AreBelow (length us) is → StandAt us n is →
    StandAt (a ∷ us) n is
stand_more us a n [] e b s = tt
stand_more us a n (i ∷ is) e b s =
    let other : (a.id == i) ≡ false = false_from_ne_true (a.id == i) (λ same. let at : a.id ≡ i = eqb-true a.id i same in
    let lt : i < length us = b.0 in absurd (omega (arith, at, e, lt))) in (
      (λ i₁. cond (other i₁) (length (upwards a.parent a.kind (path us) ++ a ∷ [])) (depth us i)) ∙ s.0,
      stand_more us a (n + 1) is e b.1 s.1,
    )

ids_append : (ps qs : List Act) → ids (ps ++ qs) ≡ ids ps ++ ids qs
ids_append [] qs = refl
ids_append (a ∷ rest) qs = ap (λ is. a.id ∷ is) (ids_append rest qs)

ids_length : (p : List Act) → length (ids p) ≡ length p
ids_length [] = refl
ids_length (a ∷ rest) = ap suc (ids_length rest)

-- a path read among these actions
abbrev pub IsPlaced : List Act → List Act → Type 0
IsPlaced us p = AreBelow (length us) (ids p) × StandAt us 0 (ids p)

placed_more : (us : List Act) (a : Act) (p : List Act) → a.id ≡ length us → IsPlaced us p → IsPlaced (a ∷ us) p
placed_more us a p e h = (below_more (length us) (length (a ∷ us)) (ids p) (omega arith) h.0, stand_more us a 0 (ids p) e h.0 h.1)

upwards_placed : (us : List Act) (o : Option (List ℕ)) (k : Kind) → ((l : List ℕ) → IsPlaced us (path us l)) →
    IsPlaced us (upwards o k (path us))
upwards_placed us None k h = (tt, tt)
upwards_placed us (Some p) kind.Top h = h p
upwards_placed us (Some p) kind.Nested h = h p
upwards_placed us (Some p) kind.Independent h = (tt, tt)
upwards_placed us (Some p) kind.Serial h = h p
upwards_placed us (Some p) kind.Constituent h = h p

with_own : (us : List Act) (a : Act) (up : List Act) → upwards a.parent a.kind (path us) ≡ up → a.id ≡ length us → IsPlaced us up →
    IsPlaced (a ∷ us) (up ++ a ∷ [])
with_own us a up same e h =
    let more = placed_more us a up e h in
    let own : (a.id == a.id) ≡ true = eq-eqb a.id a.id refl in
    let deep : depth (a ∷ us) a.id ≡ 0 + length (ids up) + 1 =
    (λ i. cond (own i) (length (same i ++ a ∷ [])) (depth us a.id)) ∙ length-append up (a ∷ []) ∙ ap (λ n. n + 1) (sym (ids_length up))
    ∙ omega arith in
    let all : ids (up ++ a ∷ []) ≡ ids up ++ a.id ∷ [] = ids_append up (a ∷ []) in
    let last : a.id < length (a ∷ us) = omega (arith, e) in (
      subst (AreBelow (length (a ∷ us))) (sym all) (below_append (length (a ∷ us)) (ids up) a.id more.0 last),
      subst (StandAt (a ∷ us) 0) (sym all) (stand_append (a ∷ us) 0 (ids up) a.id more.1 deep),
    )

path_placed : (us : List Act) → AreNumbered us → (l : List ℕ) → IsPlaced us (path us l)
path_placed [] h l = (tt, tt)
path_placed (a ∷ older) h l = by (path_placed older h.1) (bytes_eq a.label l)
  where
    by : ((m : List ℕ) → IsPlaced older (path older m)) → (b : Bool) →
        IsPlaced (a ∷ older) (cond b (upwards a.parent a.kind (path older) ++ a ∷ []) (path older l))
    by ih true = with_own older a (upwards a.parent a.kind (path older)) refl h.0 (upwards_placed older a.parent a.kind ih)
    by ih false = placed_more older a (path older l) h.0 (ih l)

numbered_more : (us : List Act) (b : Body) → AreNumbered us → AreNumbered (acts_after us b)
numbered_more us b h = by (begun_of b)
  where
    by : (o : Option Begun) → AreNumbered (numbered us o)
    by None = h
    by (Some g) = (refl, h)

placed_after : (us : List Act) (p : List Act) (b : Body) → IsPlaced us p → IsPlaced (acts_after us b) p
placed_after us p b h = by (begun_of b)
  where
    by : (o : Option Begun) → IsPlaced (numbered us o) p
    by None = h
    by (Some g) = placed_more us (record { id = length us; label = g.label; kind = g.kind; uid = g.uid; parent = g.parent }) p refl h

placed_from : (us : List Act) (p : List Act) (ls : List Line) → IsPlaced us p → IsPlaced (acts_from us ls) p
placed_from us p [] h = h
placed_from us p (l ∷ ls) h = placed_from (acts_after us l.body) p ls (placed_after us p l.body h)

its_path : (us : List Act) → AreNumbered us → (b : Body) (s : Said) → said_of us b ≡ Some s → IsPlaced us s.path
its_path us h (body.Ok l x op answer) s e =
    let own : Said = record { path = path us (name l); x = x; op = op; answer = answer } in
    let same : own ≡ s = cc in
    subst (λ t. IsPlaced us t.path) same (path_placed us h (name l))
its_path us h b s e = absurd (cc e)

-- the path of each answered call, among all actions of the journal
said_placed : (us : List Act) (n : ℕ) (ls : List Line) → AreNumbered us →
    AllByRecursion (λ s. IsPlaced (acts_from us ls) s.it.path) (read said_of us n ls)
said_placed us n [] h = tt
said_placed us n (l ∷ ls) h = by (said_placed (acts_after us l.body) (n + 1) ls (numbered_more us l.body h)) (said_of us l.body) refl
  where
    whole : List Act
    whole = acts_from us (l ∷ ls)

    by : AllByRecursion (λ s. IsPlaced whole s.it.path) (read said_of (acts_after us l.body) (n + 1) ls) → (o : Option Said) →
        said_of us l.body ≡ o → AllByRecursion (λ s. IsPlaced whole s.it.path) (put n o (read said_of (acts_after us l.body) (n + 1) ls))
    by ih None e = ih
    by ih (Some s) e = (placed_from us s.path (l ∷ ls) (its_path us h l.body s e), ih)

-- the actions of a chain stand below the top
chain_stands : (us : List Act) (p : List Act) (t : Act) → StandAt us 0 (ids p) → top_in p ≡ Some t →
    StandAt us (depth us t.id) (ids (chain_in p))
chain_stands us [] t s e = absurd (cc e)
chain_stands us (a ∷ []) t s e = by (is_serial a.kind) e
  where
    by : (b : Bool) → cond b None (Some a) ≡ Some t → StandAt us (depth us t.id) (ids (cond b [] []))
    by true g = absurd (cc g)
    by false g = tt
chain_stands us (a ∷ c ∷ rest) t s e = by (is_serial a.kind) e
  where
    by : (b : Bool) → cond b (Some c) (Some a) ≡ Some t → StandAt us (depth us t.id) (ids (cond b rest (c ∷ rest)))
    by true g = let same : c ≡ t = cc in let at : 2 ≡ depth us t.id = sym s.1.0 ∙ ap (λ u. depth us u.id) same in
        subst (λ n. StandAt us n (ids rest)) at s.1.1
    by false g = let same : a ≡ t = cc in let at : 1 ≡ depth us t.id = sym s.0 ∙ ap (λ u. depth us u.id) same in
        subst (λ n. StandAt us n (ids (c ∷ rest))) at s.1

-- the actions below its top that a call was made in
abbrev pub ChainStands : List Act → Call → Type 0
ChainStands us c = StandAt us (depth us c.top) c.chain

kept_stands : (us : List Act) (ends : List (Placed ℕ)) (found : List (Placed Uid)) (s : Placed Said) (c : Call) → IsPlaced us s.it.path →
    kept ends found s ≡ Some c → ChainStands us c
kept_stands us ends found s c h e = by (top_in s.it.path) refl e
  where
    from : (top : Act) → top_in s.it.path ≡ Some top → (b : Bool) → cond b (Some (call_of s top)) None ≡ Some c → ChainStands us c
    from top is true g = let same : call_of s top ≡ c = cc in subst (ChainStands us) same (chain_stands us s.it.path top h.1 is)
    from top is false g = absurd (cc g)

    by : (o : Option Act) → top_in s.it.path ≡ o → kept_in ends found s o ≡ Some c → ChainStands us c
    by None is g = absurd (cc g)
    by (Some top) is g = from top is (list_all (λ a. has_end ends a.id) (chain_in s.it.path) && is_committed ends found top) g

pub chains_stand : (lines : List Line) → AllByRecursion (ChainStands (acts lines)) (committed_calls lines)
chains_stand lines =
    all_filter_map (λ s. IsPlaced (acts lines) s.it.path) (ChainStands (acts lines)) (kept (committed lines) (recovered lines))
    (λ s c h e. kept_stands (acts lines) (committed lines) (recovered lines) s c h e) (said lines) (said_placed [] 0 lines tt)
