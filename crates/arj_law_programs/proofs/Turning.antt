-- How the open actions of a program begin, commit and go.
use Rattle.std.proofs.Common.{◌≡◌, ◌∙◌, ◌<◌, ℕ, List, [], ◌∷◌, ◌++◌, length, map, refl, ap, sym, subst, arith, true, false}
use Rattle.std.proofs.Common.{Bool, Some, None, cond, ◌&&◌, ◌||◌, ◌==◌, append-nil, eq-eqb, eqb-true, true≢false}
use Rattle.std.specs.Prelude.{filter}
use Rattle.std.specs.List.{AllByRecursion, list_all}
use Rattle.std.proofs.lemmas.List.{append_assoc}
use Rattle.std.proofs.lemmas.List.Folds.{list_any-append}
use Rattle.arj_journal.specs.declared.body.Kind.TheVariants as kind
use Rattle.arj_model.specs.Actions.{Act, Placed, act_in, chain_in, has_end, path, top_in, upwards}
use Rattle.arj_model.specs.Calls.{Said, ids}
use Rattle.arj_law_programs.proofs.Labels.{IsOf}
use Rattle.arj_law_programs.proofs.Acts.{In, IsOwn, IsOwnBelow, IsOwnPath, all_map, id_low}
use Rattle.arj_law_programs.proofs.Acts.{chain_is, path_new, same_act, top_is}
use Rattle.arj_law_programs.proofs.Keeping.{Falls, Live, Mark, NestsIn, Open, Rests, Stack, all_rests, all_same, among, both_ways}
use Rattle.arj_law_programs.proofs.Keeping.{counts, inner_mark, is_top, keeps, kept, kept_same, live_here, live_rests}
use Rattle.arj_law_programs.proofs.Keeping.{map_rests, or_false, or_neither, other_number, out_of_rests, stack_at, stack_in, told_at}
use Rattle.arj_law_programs.proofs.Keeping.{stack_more, sum_of}
use Rattle.arj_law_programs.proofs.Views.{IsRead, Sound, View}

-- ---- what is below a top

-- what a path read so far has below its first action
below_top : (us : List Act) (i : ℕ) (p : List Act) → IsOwnPath us i p → AllByRecursion (IsOwnBelow us i) (chain_in p)
below_top us i [] own = tt
below_top us i (a ∷ p) own = subst (AllByRecursion (IsOwnBelow us i)) (sym (chain_is a p (let o = own.0 in o.plain))) own.1

-- its top is its first action
pub its_top : (us : List Act) (i : ℕ) (p : List Act) (t : ℕ) → IsOwnPath us i p → is_top t (top_in p) ≡ true →
    (a : Act) × IsOwn us i a × (a.id ≡ t)
its_top us i [] t own holds = absurd (true≢false (sym holds))
its_top us i (a ∷ p) t own holds =
    (a, own.0, eqb-true a.id t (sym (ap (is_top t) (top_is a p (let o = own.0 in o.plain))) ∙ holds))

-- a number that no action below has isn't among theirs
pub none_among : (below : List Act) (n : ℕ) → AllByRecursion (λ (a : Act). a.id ≡ n → ⊥) below → among (ids below) n ≡ false
none_among [] n all = refl
none_among (a ∷ below) n all = or_neither (a.id == n) (among (ids below) n) (other_number a.id n all.0) (none_among below n all.1)

-- ---- an end more

pub has_more : (ends : List (Placed ℕ)) (e : Placed ℕ) (n : ℕ) → has_end (ends ++ e ∷ []) n ≡ (has_end ends n || (e.it == n))
has_more ends e n = list_any-append (λ (x : Placed ℕ). x.it == n) ends (e ∷ [])
    ∙ (λ i. has_end ends n || or_false (e.it == n) i)

pub apart_stays : (ends : List (Placed ℕ)) (e : Placed ℕ) (n : ℕ) → (n ≡ e.it → ⊥) → has_end (ends ++ e ∷ []) n ≡ has_end ends n
apart_stays ends e n apart =
    has_more ends e n ∙ (λ i. has_end ends n || other_number e.it n (λ same. apart (sym same)) i) ∙ or_false (has_end ends n)

-- the number is of no nested action of this program
abbrev pub IsApart : List Act → ℕ → ℕ → Type 0
IsApart us i n = (a : Act) → IsOwnBelow us i a → a.id ≡ n → ⊥

module _ (v : View) (sound : Sound v) (i : ℕ) (t : Act) (own : IsOwn v.acts i t) where
  -- a call of its top was read on a path of its own
  of_own : (s : Placed Said) → IsRead v.acts s.it.path → is_top t.id (top_in s.it.path) ≡ true →
      (of : (j : ℕ) → IsOf j t.label → j ≡ i) → AllByRecursion (IsOwnBelow v.acts i) (chain_in s.it.path)
  of_own s (j, road) holds of =
      let top = its_top v.acts j s.it.path t.id road holds in
      let same : top.0 ≡ t = same_act v.acts sound.numbered top.0 t (let o = top.1 in o.there) own.there top.2 in
      let one : j ≡ i = of j (subst (λ (a : Act). IsOf j a.label) same (let o = top.1 in o.label)) in
      below_top v.acts i s.it.path (subst (λ k. IsOwnPath v.acts k s.it.path) one road)

  keeps_apart : (e : Placed ℕ) (is : List ℕ) (p : List Act) → IsApart v.acts i e.it →
      (is_top t.id (top_in p) ≡ true → AllByRecursion (IsOwnBelow v.acts i) (chain_in p)) →
      keeps (v.ends ++ e ∷ []) is t.id p ≡ keeps v.ends is t.id p
  keeps_apart e is p apart below = by (is_top t.id (top_in p)) refl
    where
      by : (b : Bool) → is_top t.id (top_in p) ≡ b →
          (b && list_all (counts (v.ends ++ e ∷ []) is) (chain_in p)) ≡ (b && list_all (counts v.ends is) (chain_in p))
      by true holds =
          all_same (counts (v.ends ++ e ∷ []) is) (counts v.ends is) (chain_in p)
          (all_map (IsOwnBelow v.acts i) (λ (a : Act). counts (v.ends ++ e ∷ []) is a ≡ counts v.ends is a)
          (λ a o j. apart_stays v.ends e a.id (apart a o) j || among is a.id) (chain_in p) (below holds))
      by false fails = refl

  -- an end of no nested action of the program
  pub open_apart : (e : Placed ℕ) (top : Mark) (below : List Act) (bs : List Mark) → ((j : ℕ) → IsOf j t.label → j ≡ i) →
      AllByRecursion (IsOwnBelow v.acts i) below → IsApart v.acts i e.it → Open v top t below bs →
      Open (record v { ends = v.ends ++ e ∷ [] }) top t below bs
  open_apart e top below bs of nested apart o = record {
    kind = o.kind;
    stack = o.stack;
    live = live_rests v.ends (v.ends ++ e ∷ []) v.said v.said t.id top below bs
        (all_rests (λ os. kept (v.ends ++ e ∷ []) (ids os) t.id v.said ≡ kept v.ends (ids os) t.id v.said)
        (λ os. kept_same (v.ends ++ e ∷ []) v.ends (ids os) (ids os) t.id v.said
        (all_map (λ (s : Placed Said). IsRead v.acts s.it.path)
        (λ s. keeps (v.ends ++ e ∷ []) (ids os) t.id s.it.path ≡ keeps v.ends (ids os) t.id s.it.path)
        (λ s r. keeps_apart e (ids os) s.it.path apart (λ holds. of_own s r holds of)) v.said sound.said)) below) o.live;
    undone = still below nested o.undone;
    falls = o.falls;
    nests = o.nests;
  }
    where
      still : (xs : List Act) → AllByRecursion (IsOwnBelow v.acts i) xs → AllByRecursion (λ (a : Act). has_end v.ends a.id ≡ false) xs →
          AllByRecursion (λ (a : Act). has_end (v.ends ++ e ∷ []) a.id ≡ false) xs
      still [] own none = tt
      still (x ∷ xs) own none = (apart_stays v.ends e x.id (apart x own.0) ∙ none.0, still xs own.1 none.1)

-- ---- the innermost action commits

-- its calls join those of the one that it is in
abbrev pub join_top : Mark → Mark → List Mark → Mark
join_top b top [] = record { label = top.label; said = top.said ++ b.said }
join_top b top (p ∷ ps) = top

abbrev pub join_blocks : Mark → List Mark → List Mark
join_blocks b [] = []
join_blocks b (p ∷ ps) = record { label = p.label; said = p.said ++ b.said } ∷ ps

-- what counts is the same
counts_joined : (ends : List (Placed ℕ)) (e : Placed ℕ) (a : Act) (is : List ℕ) → e.it ≡ a.id → (x : Act) →
    counts (ends ++ e ∷ []) is x ≡ counts ends (a.id ∷ is) x
counts_joined ends e a is same x =
    (λ i. has_more ends e x.id i || among is x.id) ∙ (λ i. (has_end ends x.id || (same i == x.id)) || among is x.id)
    ∙ or_or (has_end ends x.id) (a.id == x.id) (among is x.id)
  where
    or_or : (p q r : Bool) → ((p || q) || r) ≡ (p || (q || r))
    or_or true q r = refl
    or_or false q r = refl

all_fails : (f : Act → Bool) (n : ℕ) (xs : List Act) → among (ids xs) n ≡ true → ((x : Act) → x.id ≡ n → f x ≡ false) →
    list_all f xs ≡ false
all_fails f n [] holds fails = absurd (true≢false (sym holds))
all_fails f n (x ∷ xs) holds fails = by (x.id == n) refl holds (λ more. all_fails f n xs more fails)
  where
    by : (b : Bool) → (x.id == n) ≡ b → (b || among (ids xs) n) ≡ true → (among (ids xs) n ≡ true → list_all f xs ≡ false) →
        (f x && list_all f xs) ≡ false
    by true is has ih = λ i. fails x (eqb-true x.id n is) i && list_all f xs
    by false is has ih = second (f x) (list_all f xs) (ih has)
      where
        second : (p q : Bool) → q ≡ false → (p && q) ≡ false
        second true q e = e
        second false q e = refl

not_among : (f g : Act → Bool) (n : ℕ) (xs : List Act) → among (ids xs) n ≡ false → ((x : Act) → (x.id == n) ≡ false → f x ≡ g x) →
    list_all f xs ≡ list_all g xs
not_among f g n [] fails same = refl
not_among f g n (x ∷ xs) fails same =
    let parts = apart (x.id == n) (among (ids xs) n) fails in
    (λ i. same x parts.0 i && list_all f xs) ∙ (λ i. g x && not_among f g n xs parts.1 same i)
  where
    apart : (p q : Bool) → (p || q) ≡ false → (p ≡ false) × (q ≡ false)
    apart false q e = (refl, e)
    apart true q e = absurd (true≢false e)

turned : (m n : ℕ) → (m == n) ≡ false → (n == m) ≡ false
turned m n e = other_number n m (λ same. both_ways (m == n) (eq-eqb m n (sym same)) e)

module _ (v : View) (t a : Act) (e : Placed ℕ) (same : e.it ≡ a.id) where
  -- further out a call that was made in it goes on to count for nothing
  keeps_further : (p : Act) (os : List Act) (q : List Act) → p.id < a.id → has_end v.ends p.id ≡ false → among (ids os) p.id ≡ false →
      (is_top t.id (top_in q) ≡ true → among (ids (chain_in q)) a.id ≡ true → among (ids (chain_in q)) p.id ≡ true) →
      keeps (v.ends ++ e ∷ []) (ids os) t.id q ≡ keeps v.ends (ids os) t.id q
  keeps_further p os q low undone out nests = by (is_top t.id (top_in q)) refl (among (ids (chain_in q)) a.id) refl
    where
      still : (x : Act) → (x.id == a.id) ≡ false → counts (v.ends ++ e ∷ []) (ids os) x ≡ counts v.ends (ids os) x
      still x fails =
          (λ i. has_more v.ends e x.id i || among (ids os) x.id) ∙ (λ i. (has_end v.ends x.id || (same i == x.id)) || among (ids os) x.id)
          ∙ (λ i. (has_end v.ends x.id || turned x.id a.id fails i) || among (ids os) x.id)
          ∙ (λ i. or_false (has_end v.ends x.id) i || among (ids os) x.id)

      undone_at : (x : Act) → x.id ≡ p.id → counts v.ends (ids os) x ≡ false
      undone_at x is = or_neither (has_end v.ends x.id) (among (ids os) x.id) (ap (has_end v.ends) is ∙ undone) (ap (among (ids os)) is
          ∙ out)

      undone_more : (x : Act) → x.id ≡ p.id → counts (v.ends ++ e ∷ []) (ids os) x ≡ false
      undone_more x is =
          still x (other_number x.id a.id (λ both. omega (arith, low, is, both))) ∙ undone_at x is

      by : (b : Bool) → is_top t.id (top_in q) ≡ b → (c : Bool) → among (ids (chain_in q)) a.id ≡ c →
          (b && list_all (counts (v.ends ++ e ∷ []) (ids os)) (chain_in q)) ≡ (b && list_all (counts v.ends (ids os)) (chain_in q))
      by false fails c has = refl
      by true holds true has =
          all_fails (counts (v.ends ++ e ∷ []) (ids os)) p.id (chain_in q) (nests holds has) undone_more
          ∙ sym (all_fails (counts v.ends (ids os)) p.id (chain_in q) (nests holds has) undone_at)
      by true holds false has = not_among (counts (v.ends ++ e ∷ []) (ids os)) (counts v.ends (ids os)) a.id (chain_in q) has still

  -- of the actions that it is in, all but the next: as much counts as before
  further : (p : Act) (ps : List Act) → p.id < a.id → has_end v.ends p.id ≡ false → AllByRecursion (λ (x : Act). x.id < p.id) ps →
      NestsIn v.said t.id a (p ∷ ps) → Rests (λ os. kept (v.ends ++ e ∷ []) (ids os) t.id v.said ≡ kept v.ends (ids os) t.id v.said) ps
  further p ps low undone falls nests =
      map_rests (λ os. among (ids os) p.id ≡ false) (λ os. kept (v.ends ++ e ∷ []) (ids os) t.id v.said ≡ kept v.ends (ids os) t.id v.said)
      (λ os out. kept_same (v.ends ++ e ∷ []) v.ends (ids os) (ids os) t.id v.said
      (all_map (λ (s : Placed Said). is_top t.id (top_in s.it.path) ≡ true →
      among (ids (chain_in s.it.path)) a.id ≡ true → among (ids (chain_in s.it.path)) p.id ≡ true)
      (λ s. keeps (v.ends ++ e ∷ []) (ids os) t.id s.it.path ≡ keeps v.ends (ids os) t.id s.it.path)
      (λ s n. keeps_further p os s.it.path low undone out n) v.said nests)) ps (out_of_rests p.id ps falls)

  kept_joined : (below : List Act) → kept (v.ends ++ e ∷ []) (ids below) t.id v.said ≡ kept v.ends (ids (a ∷ below)) t.id v.said
  kept_joined below =
      kept_same (v.ends ++ e ∷ []) v.ends (ids below) (ids (a ∷ below)) t.id v.said (these v.said)
    where
      same_keeps : (p : List Act) → keeps (v.ends ++ e ∷ []) (ids below) t.id p ≡ keeps v.ends (ids (a ∷ below)) t.id p
      same_keeps p = λ i. is_top t.id (top_in p) && list_all (λ x. counts_joined v.ends e a (ids below) same x i) (chain_in p)

      these : (ss : List (Placed Said)) →
          AllByRecursion (λ (s : Placed Said). keeps (v.ends ++ e ∷ []) (ids below) t.id s.it.path ≡ keeps v.ends (ids
          (a ∷ below)) t.id s.it.path) ss
      these [] = tt
      these (s ∷ ss) = (same_keeps s.it.path, these ss)

  live_joined : (b top : Mark) (below : List Act) (bs : List Mark) → AllByRecursion (λ (x : Act). x.id < a.id) below →
      AllByRecursion (λ (x : Act). has_end v.ends x.id ≡ false) below → Falls below → NestsIn v.said t.id a below →
      Live v.ends v.said t.id top (a ∷ below) (b ∷ bs) → Live (v.ends ++ e ∷ []) v.said t.id (join_top b top bs) below (join_blocks b bs)
  live_joined b top [] [] low undone falls nests l = kept_joined [] ∙ l.0
  live_joined b top (p ∷ ps) (q ∷ qs) low undone falls nests l = (
    kept_joined (p ∷ ps) ∙ l.0 ∙ append_assoc (sum_of top qs) q.said b.said,
    live_rests v.ends (v.ends ++ e ∷ []) v.said v.said t.id top ps qs (further p ps low.0 undone.0 falls.0 nests) (let r = l.1 in r.1),
  )
  live_joined b top [] (q ∷ qs) low undone falls nests l = absurd l.1
  live_joined b top (p ∷ ps) [] low undone falls nests l = absurd l.1

  stack_joined : (b top : Mark) (below : List Act) (bs : List Mark) → Stack v.acts t top below bs →
      Stack v.acts t (join_top b top bs) below (join_blocks b bs)
  stack_joined b top [] [] s = s
  stack_joined b top (p ∷ ps) (q ∷ qs) s = s
  stack_joined b top [] (q ∷ qs) s = absurd s
  stack_joined b top (p ∷ ps) [] s = absurd s

  undone_still : (below : List Act) → AllByRecursion (λ (x : Act). x.id < a.id) below →
      AllByRecursion (λ (x : Act). has_end v.ends x.id ≡ false) below →
      AllByRecursion (λ (x : Act). has_end (v.ends ++ e ∷ []) x.id ≡ false) below
  undone_still [] low none = tt
  undone_still (x ∷ xs) low none = (
    apart_stays v.ends e x.id (λ is. let lt : x.id < a.id = low.0 in let at : x.id ≡ a.id = is ∙ same in omega (arith, lt, at)) ∙ none.0,
    undone_still xs low.1 none.1,
  )

  pub open_joined : (b top : Mark) (below : List Act) (bs : List Mark) → Open v top t (a ∷ below) (b ∷ bs) →
      Open (record v { ends = v.ends ++ e ∷ [] }) (join_top b top bs) t below (join_blocks b bs)
  open_joined b top below bs o = record {
    kind = o.kind;
    stack = stack_joined b top below bs (let s = o.stack in s.1);
    live = live_joined b top below bs (let f = o.falls in f.0) (let u = o.undone in u.1) (let f = o.falls in f.1)
        (let n = o.nests in n.0) o.live;
    undone = undone_still below (let f = o.falls in f.0) (let u = o.undone in u.1);
    falls = let f = o.falls in f.1;
    nests = let n = o.nests in n.1;
  }

-- the innermost action is left behind
pub open_popped : (v : View) (top : Mark) (t a : Act) (below : List Act) (b : Mark) (bs : List Mark) → Open v top t (a ∷ below) (b ∷ bs) →
    Open v top t below bs
open_popped v top t a below b bs o = record {
  kind = o.kind;
  stack = let s = o.stack in s.1;
  live = let l = o.live in l.1;
  undone = let u = o.undone in u.1;
  falls = let f = o.falls in f.1;
  nests = let n = o.nests in n.1;
}

-- ---- actions that begin

module _ (v : View) (sound : Sound v) (u : Act) (new : act_in v.acts u.label ≡ None) (number : u.id ≡ length v.acts) where
  end_low : has_end v.ends u.id ≡ false
  end_low = by v.ends sound.ends
    where
      by : (es : List (Placed ℕ)) → AllByRecursion (λ (e : Placed ℕ). e.it < length v.acts) es → has_end es u.id ≡ false
      by [] all = refl
      by (e ∷ es) all =
          or_neither (e.it == u.id) (has_end es u.id)
          (other_number e.it u.id (λ is. let low : e.it < length v.acts = all.0 in absurd (omega (arith, low, is, number)))) (by es all.1)

  -- it is on no path that was read
  not_read : (p : List Act) → IsRead v.acts p → among (ids (chain_in p)) u.id ≡ false
  not_read p (i, own) =
      none_among (chain_in p) u.id
      (all_map (IsOwnBelow v.acts i) (λ (a : Act). a.id ≡ u.id → ⊥)
      (λ a o is. let low = id_low v.acts sound.numbered a (let w = o.0 in w.there) in absurd (omega (arith, low, is, number)))
      (chain_in p) (below_top v.acts i p own))

  pub open_first : (top : Mark) → top.label ≡ u.label → top.said ≡ [] → u.kind ≡ kind.Top → u.parent ≡ None →
      Open (record v { acts = u ∷ v.acts }) top u [] []
  open_first top label none top_kind alone = record {
    kind = top_kind;
    stack = ap (path (u ∷ v.acts)) label ∙ path_new v.acts u ∙ (λ i. upwards (alone i) u.kind (path v.acts) ++ u ∷ []);
    live = nothing v.said sound.said ∙ sym none;
    undone = tt;
    falls = tt;
    nests = tt;
  }
    where
      other : (p : List Act) → IsRead v.acts p → is_top u.id (top_in p) ≡ false
      other p (i, own) = by (is_top u.id (top_in p)) refl
        where
          by : (b : Bool) → is_top u.id (top_in p) ≡ b → b ≡ false
          by false fails = refl
          by true holds =
              let top = its_top v.acts i p u.id own holds in
              let low = id_low v.acts sound.numbered top.0 (let o = top.1 in o.there) in
              let at = top.2 in absurd (omega (arith, low, at, number))

      nothing : (ss : List (Placed Said)) → AllByRecursion (λ (s : Placed Said). IsRead v.acts s.it.path) ss → kept v.ends [] u.id ss ≡ []
      nothing [] all = refl
      nothing (s ∷ ss) all =
          (λ i. map told_at (cond (other s.it.path all.0 i && list_all (counts v.ends []) (chain_in s.it.path))
          (s ∷ filter (λ r. keeps v.ends [] u.id r.it.path) ss) (filter (λ r. keeps v.ends [] u.id r.it.path) ss)))
          ∙ nothing ss all.1

  low_all : (below : List Act) → AllByRecursion (λ (a : Act). In a v.acts) below → AllByRecursion (λ (x : Act). x.id < u.id) below
  low_all below all =
      all_map (λ (a : Act). In a v.acts) (λ x. x.id < u.id)
      (λ a there. let low = id_low v.acts sound.numbered a there in let lt : a.id < u.id = omega (arith, low, number) in lt) below all

  pub open_nested : (t : Act) (top : Mark) (below : List Act) (b : Mark) (bs : List Mark) → b.label ≡ u.label → b.said ≡ [] →
      u.kind ≡ kind.Nested → u.parent ≡ Some (let m = inner_mark top bs in m.label) → Open v top t below bs →
      Open (record v { acts = u ∷ v.acts }) top t (u ∷ below) (b ∷ bs)
  open_nested t top below b bs label none nested parent o = record {
    kind = o.kind;
    stack = (
      ap (path (u ∷ v.acts)) label ∙ path_new v.acts u ∙ (λ i. upwards (parent i) (nested i) (path v.acts) ++ u ∷ [])
          ∙ ap (λ p. p ++ u ∷ []) (stack_at v.acts t top below bs o.stack),
      stack_more v.acts u t top below bs new o.stack,
    );
    live = (
      kept_same v.ends v.ends (ids (u ∷ below)) (ids below) t.id v.said
          (all_map (λ (s : Placed Said). IsRead v.acts s.it.path)
          (λ s. keeps v.ends (ids (u ∷ below)) t.id s.it.path ≡ keeps v.ends (ids below) t.id s.it.path)
          (λ s r i. is_top t.id (top_in s.it.path) && not_among (counts v.ends (ids (u ∷ below))) (counts v.ends (ids below)) u.id
          (chain_in s.it.path)
          (not_read s.it.path r) (λ x fails j. has_end v.ends x.id || (turned x.id u.id fails j || among
          (ids below) x.id)) i) v.said sound.said)
          ∙ live_here v.ends v.said t.id top below bs o.live ∙ sym (append-nil (sum_of top bs)) ∙ ap (λ cs. sum_of top bs ++ cs) (sym none),
      o.live,
    );
    undone = (end_low, o.undone);
    falls = (low_all below (stack_in v.acts t top below bs o.stack), o.falls);
    nests = (nests_first below, o.nests);
  }
    where
      nests_first : (xs : List Act) → NestsIn v.said t.id u xs
      nests_first [] = tt
      nests_first (p ∷ ps) =
          all_map (λ (s : Placed Said). IsRead v.acts s.it.path)
          (λ s. is_top t.id (top_in s.it.path) ≡ true → among (ids (chain_in s.it.path)) u.id ≡ true →
          among (ids (chain_in s.it.path)) p.id ≡ true)
          (λ s r holds has. both_ways (among (ids (chain_in s.it.path)) u.id) has (not_read s.it.path r)) v.said sound.said
