-- Paths of actions, by their numbers.
use Rattle.std.proofs.Common.{◌≡◌, ◌≢◌, ◌<◌, ◌≤◌, ◌⊎◌, inl, inr, ⊎_elim, true≢false, ℕ, zero, suc, ◌+◌, List, [], ◌∷◌, ◌++◌, length, take}
use Rattle.std.proofs.Common.{Bool, true, false, cond, ◌==◌, Option, Some, None, slice_get, refl, sym, ◌∙◌, ap, subst, arith}
use Rattle.std.specs.List.{AllByRecursion}
use Rattle.std.specs.Option.{option_map}
use Rattle.std.specs.Str.{bytes_eq}
use Rattle.std.proofs.lemmas.Bool.{eqb-true}
use Rattle.std.proofs.lemmas.List.{length_push}
use Rattle.std.proofs.lemmas.Option.{slice_get_cases, slice_get_past, slice_get_within}
use Rattle.arj_journal.specs.declared.body.Kind.{Kind}
use Rattle.arj_journal.specs.declared.body.Kind.TheVariants as kind
use Rattle.arj_model.specs.Actions.{Act, act_in, behind_first, chain_in, id_in, path, path_in, top_in, upwards}
use Rattle.arj_law.proofs.Common.{all_map}
use Rattle.arj_reading.specs.Reading.{above_in, action_of, actions_of, top_action}
use Rattle.arj_reading.specs.declared.action.Action.{Action}
use Rattle.arj_reading.proofs.Numbers.{AreNumbered, get_last, get_push, get_stays, length_actions, none_above, path_some}
use Rattle.arj_replay.specs.Orders.{paths}
use Rattle.arj_start.specs.Kinds.{is_serial}

pub length_paths : (us : List Act) → length (paths us) ≡ length us
length_paths [] = refl
length_paths (a ∷ older) = length_push (paths older) (path_in older a) ∙ one_more (length_paths older)
  where
    one_more : length (paths older) ≡ length older → length (paths older) + 1 ≡ length (a ∷ older)
    one_more e = omega (arith, e)

-- the path of the action with a label is that of its number
pub path_here : (us : List Act) → AreNumbered us → (l : List ℕ) (a : Act) → act_in us l ≡ Some a →
    slice_get (paths us) a.id ≡ Some (path us l)
path_here [] h l a e = absurd (cc e)
path_here (b ∷ older) h l a e = by (path_here older h.1 l a) (bytes_eq b.label l) e
  where
    by : (act_in older l ≡ Some a → slice_get (paths older) a.id ≡ Some (path older l)) → (t : Bool) →
        cond t (Some b) (act_in older l) ≡ Some a
        → slice_get (paths older ++ path_in older b ∷ []) a.id ≡ Some (cond t (path_in older b) (path older l))
    by ih true g =
        let same : b ≡ a = cc g in get_last (paths older) (path_in older b) a.id (ap (λ c. c.id) (sym same) ∙ h.0 ∙ sym (length_paths older))
    by ih false g = get_stays (paths older) (path_in older b) (path older l) a.id (ih g)

-- the actions of a path have numbers below this
abbrev pub AreUnder : ℕ → List Act → Type 0
AreUnder n p = AllByRecursion (λ a. a.id < n) p

under_append : (n : ℕ) (p : List Act) (a : Act) → AreUnder n p → a.id < n → AreUnder n (p ++ a ∷ [])
under_append n [] a h lt = (lt, tt)
under_append n (b ∷ p) a h lt = (h.0, under_append n p a h.1 lt)

under_more : (m n : ℕ) (p : List Act) → m ≤ n → AreUnder m p → AreUnder n p
under_more m n p le h = all_map (λ a. a.id < m) (λ a. a.id < n) (λ a lt. omega (arith, lt, le)) p h

under_upwards : (us : List Act) (n : ℕ) (k : Kind) (o : Option (List ℕ)) → ((l : List ℕ) → AreUnder n (path us l)) →
    AreUnder n (upwards o k (path us))
under_upwards us n k None h = tt
under_upwards us n kind.Independent (Some l) h = tt
under_upwards us n kind.Top (Some l) h = h l
under_upwards us n kind.Nested (Some l) h = h l
under_upwards us n kind.Serial (Some l) h = h l
under_upwards us n kind.Constituent (Some l) h = h l

pub path_under : (us : List Act) → AreNumbered us → (l : List ℕ) → AreUnder (length us) (path us l)
path_under [] h l = tt
path_under (b ∷ older) h l = by (path_under older h.1) (bytes_eq b.label l)
  where
    by : ((m : List ℕ) → AreUnder (length older) (path older m)) → (t : Bool) →
        AreUnder (length (b ∷ older)) (cond t (path_in older b) (path older l))
    by ih true =
        under_append (length (b ∷ older)) (upwards b.parent b.kind (path older)) b
        (under_more (length older) (length (b ∷ older)) (upwards b.parent b.kind (path older)) (omega arith) (under_upwards older (length older) b.kind b.parent ih)) (let e : b.id ≡ length older = h.0 in omega (arith, e))
    by ih false = under_more (length older) (length (b ∷ older)) (path older l) (omega arith) (ih l)

-- Where an action stands: alone, or behind the path of one before it.
pub data Stands (earlier : List (List Act)) (i : ℕ) (act : Act) (above : Option ℕ) (p : List Act) : Type 0 where
  Alone : above ≡ None → p ≡ act ∷ [] → Stands earlier i act above p
  Below : (j : ℕ) (q : List Act) → above ≡ Some j → slice_get earlier j ≡ Some q → p ≡ q ++ act ∷ [] → q ≢ [] → AreUnder i q →
      Stands earlier i act above p

-- the action of this number, with its path; `earlier` are the paths of those before it
pub record IsAt (earlier : List (List Act)) (i : ℕ) (a : Action) (p : List Act) : Type 0 where
  pub act : Act
  pub id : act.id ≡ i
  pub is : a ≡ action_of act a.above p
  pub stands : Stands earlier i act a.above p

has_label : (us : List Act) → AreNumbered us → (l : List ℕ) (j : ℕ) → id_in us l ≡ Some j →
    (slice_get (paths us) j ≡ Some (path us l)) × (path us l ≢ [])
has_label us h l j e = by (act_in us l) refl e
  where
    by : (o : Option Act) → act_in us l ≡ o → option_map (λ a. a.id) o ≡ Some j →
        (slice_get (paths us) j ≡ Some (path us l)) × (path us l ≢ [])
    by None is g = absurd (cc g)
    by (Some a) is g =
        let at : a.id ≡ j = cc g in (subst (λ n. slice_get (paths us) n ≡ Some (path us l)) at (path_here us h l a is), path_some us l a is)

stands_newest : (us : List Act) → AreNumbered us → (b : Act) (o : Option ℕ) → above_in us b.kind b.parent ≡ o →
    Stands (paths us) (length us) b (above_in us b.kind b.parent) (path_in us b)
stands_newest us h b None e = Alone e (ap (λ p. p ++ b ∷ []) (none_above us b.kind b.parent e))
stands_newest us h b (Some j) e =
    let s = below b.kind b.parent e in Below j (upwards b.parent b.kind (path us)) e s.0 refl s.1 (under_upwards us (length us) b.kind b.parent (path_under us h))
  where
    below : (k : Kind) (p : Option (List ℕ)) → above_in us k p ≡ Some j →
        (slice_get (paths us) j ≡ Some (upwards p k (path us))) × (upwards p k (path us) ≢ [])
    below k None g = absurd (cc g)
    below kind.Independent (Some l) g = absurd (cc g)
    below kind.Top (Some l) g = has_label us h l j g
    below kind.Nested (Some l) g = has_label us h l j g
    below kind.Serial (Some l) g = has_label us h l j g
    below kind.Constituent (Some l) g = has_label us h l j g

take_whole : {A : Type 0} (xs : List A) (x : A) (n : ℕ) → n ≡ length xs → take n (xs ++ x ∷ []) ≡ xs
take_whole [] x zero e = refl
take_whole [] x (suc n) e = absurd (omega (arith, e))
take_whole (y ∷ xs) x zero e = absurd (omega (arith, e))
take_whole (y ∷ xs) x (suc n) e = ap (λ ys. y ∷ ys) (take_whole xs x n (omega (arith, e)))

take_within : {A : Type 0} (xs : List A) (x : A) (n : ℕ) → n ≤ length xs → take n (xs ++ x ∷ []) ≡ take n xs
take_within xs x zero le = refl
take_within [] x (suc n) le = absurd (omega (arith, le))
take_within (y ∷ xs) x (suc n) le = ap (λ ys. y ∷ ys) (take_within xs x n (omega (arith, le)))

-- each action with its path
pub is_at : (us : List Act) → AreNumbered us → (i : ℕ) (a : Action) (p : List Act) → slice_get (actions_of us) i ≡ Some a →
    slice_get (paths us) i ≡ Some p → IsAt (take i (paths us)) i a p
is_at [] h i a p e g = absurd (cc e)
is_at (b ∷ older) h i a p e g =
    by (is_at older h.1 i a p) (i == length (actions_of older)) refl (sym (get_push (actions_of older) kept i) ∙ e) (sym (get_push (paths older) (path_in older b) i) ∙ g)
  where
    kept : Action
    kept = action_of b (above_in older b.kind b.parent) (path_in older b)

    same : length (paths older) ≡ length (actions_of older)
    same = length_paths older ∙ sym (length_actions older)

    newest : i ≡ length older → kept ≡ a → path_in older b ≡ p → IsAt (take i (paths older ++ path_in older b ∷ [])) i a p
    newest at is ps =
        subst (λ c. IsAt (take i (paths older ++ path_in older b ∷ [])) i c p) is
        (subst (λ q. IsAt (take i (paths older ++ path_in older b ∷ [])) i kept q) ps (record {
          act = b;
          id = h.0 ∙ sym at;
          is = refl;
          stands = subst (λ es. Stands es i b (above_in older b.kind b.parent) (path_in older b)) (sym (take_whole (paths older) (path_in older b) i (at ∙ sym (length_paths older)))) (subst (λ n. Stands (paths older) n b (above_in older b.kind b.parent) (path_in older b)) (sym at) (stands_newest older h.1 b (above_in older b.kind b.parent) refl));
        }))

    by : (slice_get (actions_of older) i ≡ Some a → slice_get (paths older) i ≡ Some p → IsAt (take i (paths older)) i a p) → (t : Bool) →
        (i == length (actions_of older)) ≡ t
        → cond t (Some kept) (slice_get (actions_of older) i) ≡ Some a →
        cond (i == length (paths older)) (Some (path_in older b)) (slice_get (paths older) i) ≡ Some p →
        IsAt (take i (paths older ++ path_in older b ∷ [])) i a p
    by ih true t x y =
        let at : i ≡ length (actions_of older) = eqb-true i (length (actions_of older)) t in
        let there : (i == length (paths older)) ≡ true = ap (λ n. i == n) same ∙ t in
        let z : Some (path_in older b) ≡ Some p = (λ k. cond (sym there k) (Some (path_in older b)) (slice_get (paths older) i)) ∙ y in
        newest (at ∙ length_actions older) (cc x) (cc z)
    by ih false t x y =
        let there : (i == length (paths older)) ≡ false = ap (λ n. i == n) same ∙ t in
        let z : slice_get (paths older) i ≡ Some p = (λ k. cond (sym there k) (Some (path_in older b)) (slice_get (paths older) i)) ∙ y in
        let lt : i < length (paths older) = slice_get_within (paths older) i p z in
        subst (λ es. IsAt es i a p) (sym (take_within (paths older) (path_in older b) i (omega (arith, lt)))) (ih x z)

-- Surviving calls of an action, by those of the action above.

-- the first of a path is a serializing action alone
abbrev pub is_serial_alone : List Act → Bool
is_serial_alone [] = false
is_serial_alone (a ∷ []) = is_serial a.kind
is_serial_alone (a ∷ b ∷ rest) = false

-- behind such a path an action is a top
pub top_behind : (q : List Act) (a : Act) → q ≢ [] → is_serial_alone q ≡ true →
    (top_in (q ++ a ∷ []) ≡ Some a) × (chain_in (q ++ a ∷ []) ≡ [])
top_behind [] a some e = absurd (some refl)
top_behind (s ∷ []) a some e = by (is_serial s.kind) e
  where
    by : (b : Bool) → b ≡ true → (cond b (Some a) (Some s) ≡ Some a) × (cond b [] (a ∷ []) ≡ [])
    by true g = (refl, refl)
    by false g = absurd (true≢false (sym g))
top_behind (s ∷ t ∷ rest) a some e = absurd (true≢false (sym e))

-- behind any other the top is that of the path
pub record SameTop (q : List Act) (a : Act) : Type 0 where
  pub act : Act
  pub own : top_in q ≡ Some act
  pub top : top_in (q ++ a ∷ []) ≡ Some act
  pub chain : chain_in (q ++ a ∷ []) ≡ chain_in q ++ a ∷ []

pub same_top : (q : List Act) (a : Act) → q ≢ [] → is_serial_alone q ≡ false → SameTop q a
same_top [] a some e = absurd (some refl)
same_top (s ∷ []) a some e =
    record {
      act = s;
      own = (λ i. cond (e i) None (Some s));
      top = (λ i. cond (e i) (Some a) (Some s));
      chain =
          (λ i. cond (e i) [] (a ∷ [])) ∙ sym (λ i. cond (e i) [] [] ++ a ∷ []);
    }
same_top (s ∷ t ∷ rest) a some e = by (is_serial s.kind) refl
  where
    by : (b : Bool) → is_serial s.kind ≡ b → SameTop (s ∷ t ∷ rest) a
    by true g = record {
      act = t;
      own = (λ i. cond (g i) (Some t) (Some s));
      top = (λ i. cond (g i) (Some t) (Some s));
      chain =
          (λ i. cond (g i) (rest ++ a ∷ []) (t ∷ (rest ++ a ∷ []))) ∙ sym (λ i. cond (g i) rest (t ∷ rest) ++ a ∷ []);
    }
    by false g = record {
      act = s;
      own = (λ i. cond (g i) (Some t) (Some s));
      top = (λ i. cond (g i) (Some t) (Some s));
      chain =
          (λ i. cond (g i) (rest ++ a ∷ []) (t ∷ (rest ++ a ∷ []))) ∙ sym (λ i. cond (g i) rest (t ∷ rest) ++ a ∷ []);
    }

-- the top of a path is one of its actions
top_under : (n : ℕ) (q : List Act) (t : Act) → AreUnder n q → top_in q ≡ Some t → t.id < n
top_under n [] t h e = absurd (cc e)
top_under n (s ∷ []) t h e = by (is_serial s.kind) e
  where
    by : (b : Bool) → cond b None (Some s) ≡ Some t → t.id < n
    by true g = absurd (cc g)
    by false g = let same : s ≡ t = cc g in subst (λ a. a.id < n) same h.0
top_under n (s ∷ u ∷ rest) t h e = by (is_serial s.kind) e
  where
    by : (b : Bool) → cond b (Some u) (Some s) ≡ Some t → t.id < n
    by true g = let same : u ≡ t = cc g in subst (λ a. a.id < n) same h.1.0
    by false g = let same : s ≡ t = cc g in subst (λ a. a.id < n) same h.0

-- What a path says of a key: its top, and the chain below it.
pub record PathIs (earlier : List (List Act)) (i : ℕ) (a : Action) (p : List Act) : Type 0 where
  pub act : Act
  pub id : act.id ≡ i
  pub top : a.top ≡ option_map top_action (top_in p)
  -- it is a top itself, or no top stands on its path, or it stands below the top of the path above
  pub way : ((top_in p ≡ Some act) × (chain_in p ≡ []))
      ⊎ ((top_in p ≡ None)
      ⊎ ((j : ℕ) × (q : List Act) × (t : Act) × (a.above ≡ Some j) × (slice_get earlier j ≡ Some q) × (top_in p ≡ Some t) × (top_in q ≡ Some t) × (t.id < i) × (chain_in p ≡ chain_in q ++ act ∷ [])))

pub path_is : (earlier : List (List Act)) (i : ℕ) (a : Action) (p : List Act) → IsAt earlier i a p → PathIs earlier i a p
path_is earlier i a p at = record { act = at.act; id = at.id; top = ap (λ b. b.top) at.is; way = by at.stands }
  where
    Way : List Act → Type 0
    Way r = ((top_in r ≡ Some at.act) × (chain_in r ≡ []))
        ⊎ ((top_in r ≡ None)
        ⊎ ((j : ℕ) × (q : List Act) × (t : Act) × (a.above ≡ Some j) × (slice_get earlier j ≡ Some q) × (top_in r ≡ Some t) × (top_in q ≡ Some t) × (t.id < i) × (chain_in r ≡ chain_in q ++ at.act ∷ [])))

    lone : (b : Bool) → is_serial at.act.kind ≡ b → Way (at.act ∷ [])
    lone true e = inr (inl (λ k. cond (e k) None (Some at.act)))
    lone false e = inl ((λ k. cond (e k) None (Some at.act)), (λ k. cond (e k) (behind_first []) []))

    behind : (j : ℕ) (q : List Act) → a.above ≡ Some j → slice_get earlier j ≡ Some q → q ≢ [] → AreUnder i q → (b : Bool) →
        is_serial_alone q ≡ b → Way (q ++ at.act ∷ [])
    behind j q is there some under true e = let t = top_behind q at.act some e in inl (t.0, t.1)
    behind j q is there some under false e =
        let t = same_top q at.act some e in inr (inr (j, q, t.act, is, there, t.top, t.own, top_under i q t.act under t.own, t.chain))

    by : Stands earlier i at.act a.above p → Way p
    by (Alone is e) = subst Way (sym e) (lone (is_serial at.act.kind) refl)
    by (Below j q is there e some under) = subst Way (sym e) (behind j q is there some under (is_serial_alone q) refl)

-- where no action is kept there is no path
pub no_path : (us : List Act) (i : ℕ) → slice_get (actions_of us) i ≡ None → slice_get (paths us) i ≡ None
no_path us i e =
    ⊎_elim (λ here. let none : Some here.0 ≡ None = sym here.2 ∙ e in absurd (cc none))
    (λ past. let le : length (actions_of us) ≤ i = past.0 in let same : length (paths us) ≡ length (actions_of us) =
    length_paths us ∙ sym (length_actions us) in slice_get_past (paths us) i (omega (arith, le, same)))
    (slice_get_cases (actions_of us) i).1

-- a path isn't empty
pub stands_some : (earlier : List (List Act)) (i : ℕ) (act : Act) (above : Option ℕ) (p : List Act) → Stands earlier i act above p → p ≢ []
stands_some earlier i act above p (Alone is e) none = let never : act ∷ [] ≡ [] = sym e ∙ none in absurd (cc never)
stands_some earlier i act above p (Below j q is there e some under) none = behind q (sym e ∙ none)
  where
    behind : (q : List Act) → q ++ act ∷ [] ≡ [] → ⊥
    behind [] never = absurd (cc never)
    behind (b ∷ q) never = absurd (cc never)
