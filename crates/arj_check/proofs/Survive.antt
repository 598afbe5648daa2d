-- Which calls survive, action by action.
use Rattle.std.proofs.Common.{◌≡◌, ◌≢◌, ◌<◌, ◌⊎◌, inl, inr, ℕ, suc, List, [], ◌∷◌, ◌++◌, map, take, Bool, true, false, cond, ◌&&◌, ◌||◌}
use Rattle.std.proofs.Common.{◌==◌, Option, Some, None, slice_get, refl, sym, ◌∙◌, ap, arith}
use Rattle.std.specs.List.{list_all}
use Rattle.std.specs.Prelude.{is_some}
use Rattle.std.specs.BTreeMap.{get}
use Rattle.std.specs.Option.{option_map, unwrap_or}
use Rattle.std.specs.Ordering.{nat_cmp}
use Rattle.std.proofs.lemmas.Bool.{eq-eqb, eqb-true}
use Rattle.std.proofs.lemmas.Option.{get_or_from_slice_get, slice_get-map, slice_get_within}
use Rattle.arj_base.specs.Order.{uid_order}
use Rattle.arj_base.specs.declared.uid.Uid.{Uid}
use Rattle.arj_model.specs.Actions.{Act, Placed, acts, chain_in, committed, has_end, is_committed, recovered, root_in, top_in}
use Rattle.arj_model.specs.Calls.{Top, ids, root_or, top_by, top_of}
use Rattle.arj_model.specs.Nested.{commit_place}
use Rattle.arj_law.proofs.Common.{never}
use Rattle.arj_journal.specs.declared.body.Line.{Line}
use Rattle.arj_reading.specs.Reading.{HasRead, actions_of, first_place, top_action}
use Rattle.arj_reading.specs.declared.reading.Reading.{Reading}
use Rattle.arj_reading.proofs.Numbers.{are_numbered, first_has}
use Rattle.arj_reading.specs.declared.action.Action.{Action}
use Rattle.arj_reading.specs.declared.action.TopAction.{TopAction}
use Rattle.arj_replay.specs.Orders.{commits_in, paths, survives, survives_below, test_at}
use Rattle.arj_check.specs.Keys.{is_committed_top, key_below, key_of, numbers_at, path_at, top_at}
use Rattle.arj_model.specs.Serial.{serial_key}
use Rattle.arj_check.proofs.Loops.{next_path}
use Rattle.arj_check.proofs.Paths.{PathIs, is_at, no_path, path_is, stands_some}
use Rattle.arj_start.specs.Kinds.{is_serial}

all_push : (t : Act → Bool) (xs : List Act) (a : Act) → list_all t (xs ++ a ∷ []) ≡ (list_all t xs && t a)
all_push t [] a = one (t a)
  where
    one : (b : Bool) → (b && true) ≡ (true && b)
    one true = refl
    one false = refl
all_push t (x ∷ xs) a = by (t x) (all_push t xs a)
  where
    by : (b : Bool) → list_all t (xs ++ a ∷ []) ≡ (list_all t xs && t a) → (b && list_all t (xs ++ a ∷ [])) ≡ ((b && list_all t xs) && t a)
    by true ih = ih
    by false ih = refl

moved : (x h c : Bool) → ((x && h) && c) ≡ (h && (x && c))
moved true true c = refl
moved true false c = refl
moved false true c = refl
moved false false c = refl

module _ (ends : List (Placed ℕ)) (found : List (Placed Uid)) (earlier : List (List Act)) (i : ℕ) (a : Action) (p : List Act) (is : PathIs earlier i a p) where
  -- no top stands on the path
  pub no_top : a.top ≡ None → survives ends found p ≡ false
  no_top e = by (top_in p) (sym is.top ∙ e)
    where
      by : (o : Option Act) → option_map top_action o ≡ None → survives_below ends found p o ≡ false
      by None g = refl
      by (Some t) g = absurd (cc g)

  -- what is kept of the top
  its_top : (top : TopAction) → a.top ≡ Some top → (t : Act) → top_in p ≡ Some t → top ≡ top_action t
  its_top top e t g = let same : Some top ≡ Some (top_action t) = sym e ∙ is.top ∙ ap (option_map top_action) g in cc same

  -- the action is a top itself
  pub own_top : (top : TopAction) → a.top ≡ Some top → (top.number == i) ≡ true →
      (t : Act) × (top ≡ top_action t) × (survives ends found p ≡ is_committed ends found t)
  own_top top e same = by is.way
    where
      by : ((top_in p ≡ Some is.act) × (chain_in p ≡ [])) ⊎ ((top_in p ≡ None) ⊎ ((j : ℕ) × (q : List Act) × (t : Act) × (a.above ≡ Some j) × (slice_get earlier j ≡ Some q) × (top_in p ≡ Some t) × (top_in q ≡ Some t) × (t.id < i) × (chain_in p ≡ chain_in q ++ is.act ∷ [])))
          → (t : Act) × (top ≡ top_action t) × (survives ends found p ≡ is_committed ends found t)
      by (inl w) = (is.act, its_top top e is.act w.0, ap (survives_below ends found p) w.0 ∙ ap (λ c. list_all (λ b. has_end ends b.id) c && is_committed ends found is.act) w.1)
      by (inr (inl none)) = let no : Some top ≡ None = sym e ∙ is.top ∙ ap (option_map top_action) none in absurd (cc no)
      by (inr (inr w)) =
          let t : Act = w.2 in
          let lt : t.id < i = w.7 in
          let it : top ≡ top_action t = its_top top e t w.5 in
          let at : t.id ≡ i = ap (λ x. x.number) (sym it) ∙ eqb-true top.number i same in
          absurd (omega (arith, lt, at))

  -- the action stands below another top
  pub other_top : (top : TopAction) → a.top ≡ Some top → (top.number == i) ≡ false →
      survives ends found p ≡ (has_end ends i && test_at (map (survives ends found) earlier) a.above)
  other_top top e apart = by is.way
    where
      by : ((top_in p ≡ Some is.act) × (chain_in p ≡ [])) ⊎ ((top_in p ≡ None) ⊎ ((j : ℕ) × (q : List Act) × (t : Act) × (a.above ≡ Some j) × (slice_get earlier j ≡ Some q) × (top_in p ≡ Some t) × (top_in q ≡ Some t) × (t.id < i) × (chain_in p ≡ chain_in q ++ is.act ∷ [])))
          → survives ends found p ≡ (has_end ends i && test_at (map (survives ends found) earlier) a.above)
      by (inl w) = let it : top ≡ top_action is.act =
          its_top top e is.act w.0 in let at : top.number ≡ i =
          ap (λ x. x.number) it ∙ is.id in never (top.number == i) (eq-eqb top.number i at) apart
      by (inr (inl none)) = let no : Some top ≡ None = sym e ∙ is.top ∙ ap (option_map top_action) none in absurd (cc no)
      by (inr (inr w)) =
          let j : ℕ = w.0 in
          let q : List Act = w.1 in
          let t : Act = w.2 in
          let its : survives ends found q ≡ (list_all (λ b. has_end ends b.id) (chain_in q) && is_committed ends found t) =
          ap (survives_below ends found q) w.6 in
          let here : test_at (map (survives ends found) earlier) a.above ≡ survives ends found q =
          ap (test_at (map (survives ends found) earlier)) w.3 ∙ get_or_from_slice_get (map (survives ends found) earlier) j (survives ends found q) false (slice_get-map (survives ends found) earlier j ∙ ap (option_map (survives ends found)) w.4) in
          ap (survives_below ends found p) w.5
          ∙ ap (λ c. list_all (λ b. has_end ends b.id) c && is_committed ends found t) w.8
          ∙ ap (λ b. b && is_committed ends found t) (all_push (λ b. has_end ends b.id) (chain_in q) is.act)
          ∙ moved (list_all (λ b. has_end ends b.id) (chain_in q)) (has_end ends is.act.id) (is_committed ends found t)
          ∙ (λ k. has_end ends (is.id k) && sym its k)
          ∙ ap (λ b. has_end ends i && b) (sym here)

-- The commits below the top of an action.

-- where no top stands on a path, or its last action is the top, none stand below
none_below : (p : List Act) → top_in p ≡ None → chain_in p ≡ []
none_below [] e = refl
none_below (a ∷ []) e = by (is_serial a.kind) [] refl
  where
    by : (b : Bool) (q : List Act) → q ≡ [] → cond b q [] ≡ []
    by true q g = g
    by false q g = refl
none_below (a ∷ b ∷ rest) e = by (is_serial a.kind) e
  where
    by : (t : Bool) → cond t (Some b) (Some a) ≡ None → cond t rest (b ∷ rest) ≡ []
    by true g = absurd (cc g)
    by false g = absurd (cc g)

commits_push : (ends : List (Placed ℕ)) (q : List Act) (a : Act) →
    map (commit_place ends) (ids (q ++ a ∷ [])) ≡ map (commit_place ends) (ids q) ++ commit_place ends a.id ∷ []
commits_push ends [] a = refl
commits_push ends (x ∷ q) a = ap (λ ns. commit_place ends x.id ∷ ns) (commits_push ends q a)

module _ (ends : List (Placed ℕ)) (earlier : List (List Act)) (i : ℕ) (a : Action) (p : List Act) (is : PathIs earlier i a p) where
  no_commits : chain_in p ≡ [] → commits_in ends p ≡ []
  no_commits e = ap (λ c. map (commit_place ends) (ids c)) e

  pub none_commit : a.top ≡ None → commits_in ends p ≡ []
  none_commit e = no_commits (none_below p (by (top_in p) (sym is.top ∙ e)))
    where
      by : (o : Option Act) → option_map top_action o ≡ None → o ≡ None
      by None g = refl
      by (Some t) g = absurd (cc g)

  pub own_commits : (top : TopAction) → a.top ≡ Some top → (top.number == i) ≡ true → commits_in ends p ≡ []
  own_commits top e same = by is.way
    where
      by : ((top_in p ≡ Some is.act) × (chain_in p ≡ [])) ⊎ ((top_in p ≡ None) ⊎ ((j : ℕ) × (q : List Act) × (t : Act) × (a.above ≡ Some j) × (slice_get earlier j ≡ Some q) × (top_in p ≡ Some t) × (top_in q ≡ Some t) × (t.id < i) × (chain_in p ≡ chain_in q ++ is.act ∷ [])))
          → commits_in ends p ≡ []
      by (inl w) = no_commits w.1
      by (inr (inl none)) = no_commits (none_below p none)
      by (inr (inr w)) =
          let t : Act = w.2 in
          let lt : t.id < i = w.7 in
          let found : Some top ≡ Some (top_action t) = sym e ∙ is.top ∙ ap (option_map top_action) w.5 in
          let it : top ≡ top_action t = cc found in
          let at : t.id ≡ i = ap (λ x. x.number) (sym it) ∙ eqb-true top.number i same in
          absurd (omega (arith, lt, at))

  pub other_commits : (top : TopAction) → a.top ≡ Some top → (top.number == i) ≡ false →
      commits_in ends p ≡ numbers_at (map (commits_in ends) earlier) a.above ++ commit_place ends i ∷ []
  other_commits top e apart = by is.way
    where
      by : ((top_in p ≡ Some is.act) × (chain_in p ≡ [])) ⊎ ((top_in p ≡ None) ⊎ ((j : ℕ) × (q : List Act) × (t : Act) × (a.above ≡ Some j) × (slice_get earlier j ≡ Some q) × (top_in p ≡ Some t) × (top_in q ≡ Some t) × (t.id < i) × (chain_in p ≡ chain_in q ++ is.act ∷ [])))
          → commits_in ends p ≡ numbers_at (map (commits_in ends) earlier) a.above ++ commit_place ends i ∷ []
      by (inl w) =
          let found : Some top ≡ Some (top_action is.act) = sym e ∙ is.top ∙ ap (option_map top_action) w.0 in
          let it : top ≡ top_action is.act = cc found in
          let at : top.number ≡ i = ap (λ x. x.number) it ∙ is.id in
          never (top.number == i) (eq-eqb top.number i at) apart
      by (inr (inl none)) = let no : Some top ≡ None = sym e ∙ is.top ∙ ap (option_map top_action) none in absurd (cc no)
      by (inr (inr w)) =
          let j : ℕ = w.0 in
          let q : List Act = w.1 in
          let here : numbers_at (map (commits_in ends) earlier) a.above ≡ commits_in ends q =
          ap (numbers_at (map (commits_in ends) earlier)) w.3 ∙ get_or_from_slice_get (map (commits_in ends) earlier) j (commits_in ends q) [] (slice_get-map (commits_in ends) earlier j ∙ ap (option_map (commits_in ends)) w.4) in
          ap (λ c. map (commit_place ends) (ids c)) w.8 ∙ commits_push ends (chain_in q) is.act ∙ (λ k. sym here k ++ commit_place ends (is.id k) ∷ [])

-- the place of the first commit of an action
pub commit_is : (ends : List (Placed ℕ)) (i : ℕ) → unwrap_or (first_place ends i) 0 ≡ commit_place ends i
commit_is [] i = refl
commit_is (e ∷ ends) i = by (e.it == i) (commit_is ends i)
  where
    by : (b : Bool) → unwrap_or (first_place ends i) 0 ≡ commit_place ends i →
        unwrap_or (cond b (Some e.at) (first_place ends i)) 0 ≡ cond b e.at (commit_place ends i)
    by true ih = refl
    by false ih = ih

-- a top is committed by a line of its number, or by a record of its Uid
pub committed_is : (lines : List Line) (r : Reading) → HasRead lines r → (top : TopAction) →
    (is_some (get nat_cmp r.committed top.number) || is_some (get uid_order r.found top.uid)) ≡ is_committed_top (committed lines) (recovered lines) top
committed_is lines r has top =
    (λ i. (ap is_some (has.committed_at top.number) ∙ first_has (committed lines) top.number) i || has.found top.uid i)

-- Tops by marks.

-- the top whose commit was called at a mark, by what is kept of the action
abbrev pub top_kept : List (Placed ℕ) → List (Placed Uid) → ℕ → Option Action → Option TopAction → Option Top
top_kept ends found at None top = None
top_kept ends found at (Some a) None = None
top_kept ends found at (Some a) (Some top) =
    cond (is_committed_top ends found top) (Some (record { id = top.number; root = a.root; at = at })) None

-- the top of an action, if there is one
abbrev pub top_found : Option Action → Option TopAction
top_found None = None
top_found (Some a) = a.top

pub mark_top : (ends : List (Placed ℕ)) (found : List (Placed Uid)) (lines : List Line) (i at : ℕ) (o : Option Action) →
    o ≡ slice_get (actions_of (acts lines)) i →
    top_kept ends found at o (top_found o) ≡ top_at ends found (paths (acts lines)) (record { at = at; it = i })
mark_top ends found lines i at None e = sym (ap (λ p. top_of ends found (record { at = at; it = p })) (ap (λ q. unwrap_or q []) none))
  where
    none : slice_get (paths (acts lines)) i ≡ None
    none = no_path (acts lines) i (sym e)
mark_top ends found lines i at (Some a) e = by (next_path lines i (slice_get_within (actions_of (acts lines)) i a (sym e)))
  where
    by : (p : List Act) × (slice_get (paths (acts lines)) i ≡ Some p) × (take (suc i) (paths (acts lines)) ≡ take i (paths (acts lines)) ++ p ∷ []) → top_kept ends found at (Some a) a.top ≡ top_at ends found (paths (acts lines)) (record { at = at; it = i })
    by next =
        let it = is_at (acts lines) (are_numbered lines) i a next.0 (sym e) next.1 in
        (λ k. top_kept ends found at (Some a) (ap (λ b. b.top) it.is k))
        ∙ same next.0 it.act (ap (λ b. b.root) it.is) (stands_some (take i (paths (acts lines))) i it.act a.above next.0 it.stands) (top_in next.0)
        ∙ ap (λ q. top_of ends found (record { at = at; it = unwrap_or q [] })) (sym next.1)
      where
        same : (p : List Act) (act : Act) → a.root ≡ root_or act.id (root_in p) → p ≢ [] → (t : Option Act) →
            top_kept ends found at (Some a) (option_map top_action t) ≡ top_by ends found (record { at = at; it = p }) t
        same [] act root some t = absurd (some refl)
        same (r ∷ p) act root some None = refl
        same (r ∷ p) act root some (Some t) =
            (λ k. cond (is_committed ends found t) (Some (record { id = t.id; root = root k; at = at })) None)

-- Which calls of an action survive, by what is kept of it.
module _ (lines : List Line) (i : ℕ) (a : Action) (p : List Act) (kept : slice_get (actions_of (acts lines)) i ≡ Some a) (its : slice_get (paths (acts lines)) i ≡ Some p) where
  here : PathIs (take i (paths (acts lines))) i a p
  here = path_is (take i (paths (acts lines))) i a p (is_at (acts lines) (are_numbered lines) i a p kept its)

  pub survive_none : a.top ≡ None → false ≡ survives (committed lines) (recovered lines) p
  survive_none e = sym (no_top (committed lines) (recovered lines) (take i (paths (acts lines))) i a p here e)

  pub survive_own : (top : TopAction) → a.top ≡ Some top → (top.number == i) ≡ true →
      is_committed_top (committed lines) (recovered lines) top ≡ survives (committed lines) (recovered lines) p
  survive_own top e same =
      let o = own_top (committed lines) (recovered lines) (take i (paths (acts lines))) i a p here top e same in ap (is_committed_top (committed lines) (recovered lines)) o.1 ∙ sym o.2

  pub survive_other : (before : List Bool) (top : TopAction) → a.top ≡ Some top → (top.number == i) ≡ false →
      before ≡ map (survives (committed lines) (recovered lines)) (take i (paths (acts lines)))
      → (has_end (committed lines) i && test_at before a.above) ≡ survives (committed lines) (recovered lines) p
  survive_other before top e apart is =
      ap (λ ts. has_end (committed lines) i && test_at ts a.above) is ∙ sym (other_top (committed lines) (recovered lines) (take i (paths (acts lines))) i a p here top e apart)

-- The commits below the top of an action, by what is kept of it.
module _ (lines : List Line) (i : ℕ) (a : Action) (p : List Act) (kept : slice_get (actions_of (acts lines)) i ≡ Some a) (its : slice_get (paths (acts lines)) i ≡ Some p) where
  it_is : PathIs (take i (paths (acts lines))) i a p
  it_is = path_is (take i (paths (acts lines))) i a p (is_at (acts lines) (are_numbered lines) i a p kept its)

  pub commits_none : a.top ≡ None → [] ≡ commits_in (committed lines) p
  commits_none e = sym (none_commit (committed lines) (take i (paths (acts lines))) i a p it_is e)

  pub commits_own : (top : TopAction) → a.top ≡ Some top → (top.number == i) ≡ true → [] ≡ commits_in (committed lines) p
  commits_own top e same = sym (own_commits (committed lines) (take i (paths (acts lines))) i a p it_is top e same)

  pub commits_other : (before : List (List ℕ)) (top : TopAction) → a.top ≡ Some top → (top.number == i) ≡ false →
      before ≡ map (commits_in (committed lines)) (take i (paths (acts lines)))
      → numbers_at before a.above ++ commit_place (committed lines) i ∷ [] ≡ commits_in (committed lines) p
  commits_other before top e apart is =
      ap (λ ks. numbers_at ks a.above ++ commit_place (committed lines) i ∷ []) is ∙ sym (other_commits (committed lines) (take i (paths (acts lines))) i a p it_is top e apart)

-- Keys by marks.
module _ (lines : List Line) (ts : List Top) (below : List Act → List ℕ) (i at : ℕ) where
  abbrev its_key : List Act → Option (List ℕ)
  its_key p = key_below (key_of ts below) (committed lines) (recovered lines) p at (top_in p)

  pub key_none : slice_get (actions_of (acts lines)) i ≡ None → None ≡ its_key (path_at (paths (acts lines)) i)
  key_none e = sym (ap (λ q. its_key (unwrap_or q [])) (no_path (acts lines) i e))

  path_found : (a : Action) → slice_get (actions_of (acts lines)) i ≡ Some a →
      (p : List Act) × (slice_get (paths (acts lines)) i ≡ Some p) × (a.top ≡ option_map top_action (top_in p))
  path_found a e =
      let next = next_path lines i (slice_get_within (actions_of (acts lines)) i a e) in
      let it = is_at (acts lines) (are_numbered lines) i a next.0 e next.1 in
      (next.0, next.1, ap (λ b. b.top) it.is)

  at_path : (p : List Act) → slice_get (paths (acts lines)) i ≡ Some p → its_key p ≡ its_key (path_at (paths (acts lines)) i)
  at_path p e = ap (λ q. its_key (unwrap_or q [])) (sym e)

  pub key_no_top : (a : Action) → slice_get (actions_of (acts lines)) i ≡ Some a → a.top ≡ None →
      None ≡ its_key (path_at (paths (acts lines)) i)
  key_no_top a e none = let f = path_found a e in by f.0 (top_in f.0) (sym f.2 ∙ none) ∙ at_path f.0 f.1
    where
      by : (p : List Act) (t : Option Act) → option_map top_action t ≡ None →
          None ≡ key_below (key_of ts below) (committed lines) (recovered lines) p at t
      by p None g = refl
      by p (Some t) g = absurd (cc g)

  test_of : (p : List Act) → slice_get (paths (acts lines)) i ≡ Some p →
      test_at (map (survives (committed lines) (recovered lines)) (paths (acts lines))) (Some i) ≡ survives (committed lines) (recovered lines) p
  test_of p e =
      get_or_from_slice_get (map (survives (committed lines) (recovered lines)) (paths (acts lines))) i (survives (committed lines) (recovered lines) p) false (slice_get-map (survives (committed lines) (recovered lines)) (paths (acts lines)) i ∙ ap (option_map (survives (committed lines) (recovered lines))) e)

  pub key_some : (a : Action) (top : TopAction) (numbers : List ℕ) → slice_get (actions_of (acts lines)) i ≡ Some a → a.top ≡ Some top →
      test_at (map (survives (committed lines) (recovered lines)) (paths (acts lines))) (Some i) ≡ true
      → ((p : List Act) → slice_get (paths (acts lines)) i ≡ Some p → numbers ≡ below p) →
      Some (serial_key ts top.number ++ (numbers ++ at ∷ [])) ≡ its_key (path_at (paths (acts lines)) i)
  key_some a top numbers e is test are =
      let f = path_found a e in by f.0 (top_in f.0) (sym f.2 ∙ is) (sym (test_of f.0 f.1) ∙ test) (are f.0 f.1) ∙ at_path f.0 f.1
    where
      by : (p : List Act) (t : Option Act) → option_map top_action t ≡ Some top →
          survives_below (committed lines) (recovered lines) p t ≡ true → numbers ≡ below p →
          Some (serial_key ts top.number ++ (numbers ++ at ∷ [])) ≡ key_below (key_of ts below) (committed lines) (recovered lines) p at t
      by p None g h n = absurd (cc g)
      by p (Some t) g h n =
          let same : top_action t ≡ top =
          cc g in (λ k. Some (serial_key ts (ap (λ x. x.number) (sym same) k) ++ (n k ++ at ∷ []))) ∙ (λ k. cond (sym h k) (Some (serial_key ts t.id ++ (below p ++ at ∷ []))) None)

  pub key_not : test_at (map (survives (committed lines) (recovered lines)) (paths (acts lines))) (Some i) ≡ false →
      (o : Option (List Act)) → slice_get (paths (acts lines)) i ≡ o → None ≡ its_key (path_at (paths (acts lines)) i)
  key_not test None e = sym (ap (λ q. its_key (unwrap_or q [])) e)
  key_not test (Some p) e = by (top_in p) (sym (test_of p e) ∙ test) ∙ at_path p e
    where
      by : (t : Option Act) → survives_below (committed lines) (recovered lines) p t ≡ false →
          None ≡ key_below (key_of ts below) (committed lines) (recovered lines) p at t
      by None h = refl
      by (Some t) h = (λ k. cond (sym h k) (Some (serial_key ts t.id ++ (below p ++ at ∷ []))) None)
