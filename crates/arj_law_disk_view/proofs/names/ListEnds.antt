-- Store lists that a root keeps, after an answered call and after a decision.
use Rattle.arj_law_parts.proofs.Words
use Words.{◌≡◌, ◌⊎◌, ℕ, ◌==◌, ◌&&◌, ◌||◌, not, List, [], ◌∷◌, ◌++◌, Bool, true, false, cond, Option, Some, None, refl, sym, ◌∙◌, ap, subst}
use Words.{inl, inr, ⊎_elim, filter, Contains, if◌then◌else◌, Uid, is_listed, is_on, with_store, Known, included_of, marked}
use Words.{with_stores, without_stores, Coord, Grant, Root, Said, kept_of, kept_after, list_after as root_list, uid_number, is_spent}
use Words.{and_parts, is_binding}
use Words.commit
use Words.coord
use Rattle.arj_law_disk_view.proofs.Terms
use Terms.{Names, Kept, lists_after, or_else, retained, with_list, State, list_after, target, has, falls_to, never, never_some, or_cases}
use Terms.{or_left, or_right, put_cases, some_is, test_is, test_same, Kinds, IsFixed, AfterDecision, HasList, HasRetained, IsSaid, IsWithin}
use Terms.{IsShort, IsTopOf, SeesLists}
use Rattle.arj_law_disk_view.proofs.view.{ConfirmSteps.marked_is, ConfirmSteps.take_out, ConfirmWalks.has_listed}
use Rattle.arj_law_disk_view.specs.names.Lists.{AnsweredCallsHaveLists, DecisionsKeepLists, RetainedListsAreSeen}

-- ---- an answered call

pub answered_calls_have_lists : AnsweredCallsHaveLists
answered_calls_have_lists x y tops root c r q path N s after new = record {
  agree = λ k h l is. s.agree k h l (old is);
  family = λ g i. s.family g (back i);
  granted = λ g b i. s.granted g b (back i);
  named = λ k g is i. s.named k g (old is) (back i);
  short = λ k is. s.short k (old is);
  called = λ k z t is i e off on top. ⊎_elim (λ j. s.called k z t (old is) j e off on top)
      (λ same. let f = new (ap (λ (w : Said). w.x) (sym same) ∙ e) in subst (λ (m : Known). HasList N (uid_number t) m ⊎ HasRetained N
      (uid_number root) m) (some_is f.1 (old is)) (f.2 t (ap (λ (w : Said). is_on w.path t) (sym same) ∙ on) top)) (after.said z i);
  retained = λ k z is i e on. ⊎_elim (λ j. s.retained k z (old is) j e on)
      (λ same. let f = new (ap (λ (w : Said). w.x) (sym same) ∙ e) in subst (HasRetained N (uid_number root)) (some_is f.1 (old is))
      (f.3 (ap (λ (w : Said). coord.is_retained w.path c) (sym same) ∙ on))) (after.said z i);
  nothing = λ is z i e. ⊎_elim (λ j. s.nothing (sym (after.kept x) ∙ is) z j e)
      (λ same. let f = new (ap (λ (w : Said). w.x) (sym same) ∙ e) in absurd (never_some f.1 (sym (after.kept x) ∙ is))) (after.said z i);
}
  where
    old : {k : Known} → kept_of x q ≡ Some k → kept_of x r ≡ Some k
    old is = sym (after.kept x) ∙ is

    back : {g : Grant} → Contains q.grants g → Contains r.grants g
    back {g} i = subst (λ gs. Contains gs g) after.grants i

-- ---- lists of stores

and_off : (p q b : Bool) → b ≡ false → (p && b) ≡ (q && b)
and_off true true b e = refl
and_off true false b e = e
and_off false true b e = sym e
and_off false false b e = refl

or_group : (a b c : Bool) → (a || (b || c)) ≡ ((a || b) || c)
or_group true b c = refl
or_group false b c = refl

or_turn : (a b : Bool) → (a || b) ≡ (b || a)
or_turn true true = refl
or_turn true false = refl
or_turn false true = refl
or_turn false false = refl

has_filter : (f : ℕ → Bool) (s : ℕ) (xs : List ℕ) → has s (filter f xs) ≡ (has s xs && f s)
has_filter f s [] = refl
has_filter f s (x ∷ xs) = by (f x) (x == s) refl refl (has_filter f s xs)
  where
    by : (a b : Bool) → f x ≡ a → (x == s) ≡ b → has s (filter f xs) ≡ (has s xs && f s) →
        has s (cond a (x ∷ filter f xs) (filter f xs)) ≡ (((x == s) || has s xs) && f s)
    by true true e h ih =
        let fs : f s ≡ true = ap f (sym (test_is x s h)) ∙ e in
        let left : ((x == s) || has s (filter f xs)) ≡ true = ap (λ k. k || has s (filter f xs)) h in
        let right : (((x == s) || has s xs) && f s) ≡ true = (λ i. (h i || has s xs) && fs i) in
        left ∙ sym right
    by true false e h ih = ap (λ k. k || has s (filter f xs)) h ∙ ih ∙ sym (ap (λ k. (k || has s xs) && f s) h)
    by false true e h ih = ih ∙ and_off (has s xs) ((x == s) || has s xs) (f s) (ap f (sym (test_is x s h)) ∙ e)
    by false false e h ih = ih ∙ sym (ap (λ k. (k || has s xs) && f s) h)

has_app : (s : ℕ) (xs ys : List ℕ) → has s (xs ++ ys) ≡ (has s xs || has s ys)
has_app s [] ys = refl
has_app s (x ∷ xs) ys = ap (λ k. (x == s) || k) (has_app s xs ys) ∙ or_group (x == s) (has s xs) (has s ys)

has_one : (s m : ℕ) (ss : List ℕ) → has s (with_store m ss) ≡ ((m == s) || has s ss)
has_one s m ss = by (is_listed m ss) (m == s) refl refl
  where
    by : (a b : Bool) → is_listed m ss ≡ a → (m == s) ≡ b → has s (if a then ss else ss ++ m ∷ []) ≡ ((m == s) || has s ss)
    by true true e h = sym (has_listed s ss) ∙ ap (λ z. is_listed z ss) (sym (test_is m s h)) ∙ e ∙ sym (ap (λ k. k || has s ss) h)
    by true false e h = sym (ap (λ k. k || has s ss) h)
    by false b e h = has_app s ss (m ∷ []) ∙ ap (λ k. has s ss || k) (or_turn (m == s) false) ∙ or_turn (has s ss) (m == s)

has_with : (s : ℕ) (ms ss : List ℕ) → has s (with_stores ms ss) ≡ (has s ms || has s ss)
has_with s [] ss = refl
has_with s (m ∷ ms) ss = has_with s ms (with_store m ss) ∙ ap (λ k. has s ms || k) (has_one s m ss)
    ∙ or_group (has s ms) (m == s) (has s ss) ∙ ap (λ k. k || has s ss) (or_turn (has s ms) (m == s))

has_without : (s : ℕ) (ms ss : List ℕ) → has s (without_stores ms ss) ≡ (has s ss && not (is_listed s ms))
has_without s ms ss = ap (has s) (take_out ms ss) ∙ has_filter (λ z. not (is_listed z ms)) s ss

-- what a decision makes of stores within others is within what it makes of those
after_within : (x : ℕ) (S : State) (t : Uid) (p : commit.Plan) (l m : List ℕ) → IsSaid x S t p → IsWithin l m
    → IsWithin (list_after (S.plan (uid_number t)) (S.got (uid_number t)) l)
    (with_stores (marked x (included_of p)) (without_stores (marked x p.excluded) m))
after_within x S t p l m says within s on = right ∙ ⊎_elim
    (λ h. or_right (has s (marked x (included_of p))) (has s m && not (is_listed s (marked x p.excluded)))
    (both (and_parts (has s l) (not (target (S.plan (uid_number t)) s && not (S.got (uid_number t) s))) h)))
    (λ h. or_left (has s (marked x (included_of p))) (has s m && not (is_listed s (marked x p.excluded))) (ap (has s) says.joins ∙ h))
    (or_cases (has s l && not (target (S.plan (uid_number t)) s && not (S.got (uid_number t) s)))
    (has s (filter (S.got (uid_number t)) (let q = S.plan (uid_number t) in q.joins))) (sym left ∙ on))
  where
    marks : is_listed s (marked x p.excluded) ≡ (target (S.plan (uid_number t)) s && not (S.got (uid_number t) s))
    marks = marked_is x s p.excluded ∙ says.marks s

    both : (has s l ≡ true) × (not (target (S.plan (uid_number t)) s && not (S.got (uid_number t) s)) ≡ true) →
        (has s m && not (is_listed s (marked x p.excluded))) ≡ true
    both h = ap (λ b. b && not (is_listed s (marked x p.excluded))) (within s h.0) ∙ ap not marks ∙ h.1

    left : has s (list_after (S.plan (uid_number t)) (S.got (uid_number t)) l) ≡ ((has s l && not (target (S.plan (uid_number t)) s
        && not (S.got (uid_number t) s))) || has s (filter (S.got (uid_number t)) (let q = S.plan (uid_number t) in q.joins)))
    left = has_app s (filter (λ z. not (target (S.plan (uid_number t)) z && not (S.got (uid_number t) z))) l)
        (filter (S.got (uid_number t)) (let q = S.plan (uid_number t) in q.joins))
        ∙ ap (λ k. k || has s (filter (S.got (uid_number t)) (let q = S.plan (uid_number t) in q.joins)))
        (has_filter (λ z. not (target (S.plan (uid_number t)) z && not (S.got (uid_number t) z))) s l)

    right : has s (with_stores (marked x (included_of p)) (without_stores (marked x p.excluded) m))
        ≡ (has s (marked x (included_of p)) || (has s m && not (is_listed s (marked x p.excluded))))
    right = has_with s (marked x (included_of p)) (without_stores (marked x p.excluded) m)
        ∙ ap (λ k. has s (marked x (included_of p)) || k) (has_without s (marked x p.excluded) m)

-- ---- a decision

module _ (x : ℕ) (tops : Kinds) (root t : Uid) (c d : Coord) (r q : Root) (p : commit.Plan) (S : State) (N : Names) (fixed : IsFixed tops S)
    (s : SeesLists x tops root c r N) (top : IsTopOf tops root t) (own_root : tops.root (uid_number root) ≡ uid_number root)
    (says : IsSaid x S t p) (after : AfterDecision x t p c d r q) where
  -- the list that the root had, of what it has
  before : (k : Known) → kept_of x q ≡ Some k → (j : Known) × (kept_of x r ≡ Some j) × (root_list p x j ≡ k)
  before k is = by (kept_of x r) refl (sym after.kept ∙ is)
    where
      by : (o : Option Known) → kept_of x r ≡ o → kept_after p x o ≡ Some k → (j : Known) × (kept_of x r ≡ Some j) × (root_list p x j ≡ k)
      by None e h = absurd (cc h)
      by (Some j) e h = (j, e, some_is refl h)

  none_before : kept_of x q ≡ None → kept_of x r ≡ None
  none_before is = by (kept_of x r) refl (sym after.kept ∙ is)
    where
      by : (o : Option Known) → kept_of x r ≡ o → kept_after p x o ≡ None → kept_of x r ≡ None
      by None e h = e
      by (Some j) e h = absurd (cc h)

  t_root : S.root (uid_number t) ≡ uid_number root
  t_root = ap (λ f. f (uid_number t)) fixed.root ∙ top.of_root

  in_root : (z : ℕ) → S.root z ≡ uid_number root →
      lists_after S (uid_number t) N.kept z ≡ with_list (S.plan (uid_number t)) (S.got (uid_number t)) (N.kept z)
  in_root z is = ap (λ b. if b then with_list (S.plan (uid_number t)) (S.got (uid_number t)) (N.kept z) else N.kept z)
      (ap (λ w. S.root z == w) (t_root ∙ sym is) ∙ test_same (S.root z))

  top_root : (w : Uid) → IsTopOf tops root w → S.root (uid_number w) ≡ uid_number root
  top_root w of = ap (λ f. f (uid_number w)) fixed.root ∙ of.of_root

  root_root : S.root (uid_number root) ≡ uid_number root
  root_root = ap (λ f. f (uid_number root)) fixed.root ∙ own_root

  pub list_on : (z : ℕ) (k : Known) → S.root z ≡ uid_number root → HasList N z k →
      HasList (record N { kept = lists_after S (uid_number t) N.kept }) z (root_list p x k)
  list_on z k is h = record {
    kept = record { since = h.kept.since; list = list_after (S.plan (uid_number t)) (S.got (uid_number t)) h.kept.list };
    there = in_root z is ∙ ap (with_list (S.plan (uid_number t)) (S.got (uid_number t))) h.there;
    since = h.since;
    within = after_within x S t p h.kept.list k.stores says h.within;
  }

  pub retained_on : (k : Known) → HasRetained N (uid_number root) k →
      HasRetained (record N { kept = lists_after S (uid_number t) N.kept }) (uid_number root) (root_list p x k)
  retained_on k h = record {
    had = h.had;
    kept = record { since = h.kept.since; list = list_after (S.plan (uid_number t)) (S.got (uid_number t)) h.kept.list };
    there = in_root (uid_number root) root_root ∙ ap (with_list (S.plan (uid_number t)) (S.got (uid_number t))) h.there;
  }

  agrees : (k : Known) (h : Uid) (l : Kept) → kept_of x q ≡ Some k → (h ≡ root) ⊎ IsTopOf tops root h →
      lists_after S (uid_number t) N.kept (uid_number h) ≡ Some l → l.since ≡ (let b = k.binding in b.inc) → IsWithin l.list k.stores
  agrees k h l is of e since = by (N.kept (uid_number h)) refl
      (sym (in_root (uid_number h) (⊎_elim (λ same. ap (λ w. S.root (uid_number w)) same ∙ root_root) (λ o. top_root h o) of)) ∙ e)
    where
      by : (o : Option Kept) → N.kept (uid_number h) ≡ o → with_list (S.plan (uid_number t)) (S.got (uid_number t)) o ≡ Some l →
          IsWithin l.list k.stores
      by None f g = absurd (cc g)
      by (Some v) f g =
          let b = before k is in
          let same : record { since = v.since; list = list_after (S.plan (uid_number t)) (S.got (uid_number t)) v.list }
          ≡ l = some_is refl g in
          let now : v.since ≡ (let z = b.0 in let y = z.binding in y.inc) = ap (λ (z : Kept). z.since) same ∙ since
          ∙ ap (λ (z : Known). (let y = z.binding in y.inc)) (sym b.2) in
          λ n on. ap (λ (z : Known). has n z.stores) (sym b.2) ∙ after_within x S t p v.list (let z = b.0 in
          z.stores) says (s.agree b.0 h v b.1 of f now) n (ap (λ (z : Kept). has n z.list) same ∙ on)

  back : {g : Grant} → Contains q.grants g → Contains r.grants g
  back {g} i = subst (λ gs. Contains gs g) after.grants i

  said_back : {z : Said} → Contains q.said z → Contains r.said z
  said_back {z} i = subst (λ ss. Contains ss z) after.said i

  still : (z : Said) → Contains q.said z → is_spent z.path d.tree ≡ false → is_spent z.path c.tree ≡ false
  still z i off = sym (after.spent z (said_back i)) ∙ off

  names_list : (k : Known) (g : Grant) → kept_of x q ≡ Some k → Contains q.grants g → g.x ≡ x → is_binding k.binding g.named ≡ true →
      HasList (record N { kept = lists_after S (uid_number t) N.kept }) (uid_number g.top) k
  names_list k g is i e on = let b = before k is in
      subst (HasList (record N { kept = lists_after S (uid_number t) N.kept }) (uid_number g.top)) b.2
      (list_on (uid_number g.top) b.0 (top_root g.top (s.family g (back i)))
      (s.named b.0 g b.1 (back i) e (ap (λ (z : Known). is_binding z.binding g.named) b.2 ∙ on)))

  calls_list : (k : Known) (z : Said) (w : Uid) → kept_of x q ≡ Some k → Contains q.said z → z.x ≡ x → is_spent z.path d.tree ≡ false →
      is_on z.path w ≡ true → IsTopOf tops root w
      → HasList (record N { kept = lists_after S (uid_number t) N.kept }) (uid_number w) k
      ⊎ HasRetained (record N { kept = lists_after S (uid_number t) N.kept }) (uid_number root) k
  calls_list k z w is i e off on of = let b = before k is in ⊎_elim
      (λ h. inl (subst (HasList (record N { kept = lists_after S (uid_number t) N.kept }) (uid_number w)) b.2
      (list_on (uid_number w) b.0 (top_root w of) h)))
      (λ h. inr (subst (HasRetained (record N { kept = lists_after S (uid_number t) N.kept }) (uid_number root)) b.2 (retained_on b.0 h)))
      (s.called b.0 z w b.1 (said_back i) e (still z i off) on of)

  old_retained : (k : Known) (z : Said) → kept_of x q ≡ Some k → Contains q.said z → z.x ≡ x → coord.is_retained z.path c ≡ true →
      HasRetained (record N { kept = lists_after S (uid_number t) N.kept }) (uid_number root) k
  old_retained k z is i e on = let b = before k is in subst (HasRetained (record N { kept = lists_after S (uid_number t) N.kept })
      (uid_number root)) b.2 (retained_on b.0 (s.retained b.0 z b.1 (said_back i) e on))

  shorts : (k : Known) → kept_of x q ≡ Some k → IsShort k.binding
  shorts k is = let b = before k is in subst (λ (z : Known). IsShort z.binding) b.2 (s.short b.0 b.1)

  nothings : kept_of x q ≡ None → (z : Said) → Contains q.said z → z.x ≡ x → is_spent z.path d.tree ≡ true
  nothings is z i e = after.spent z (said_back i) ∙ s.nothing (none_before is) z (said_back i) e

  pub lists_kept : ((z : Said) → Contains r.said z → z.x ≡ x → coord.is_retained z.path d ≡ true → coord.is_retained z.path c ≡ true) →
      SeesLists x tops root d q (record N { kept = lists_after S (uid_number t) N.kept })
  lists_kept few = record {
    agree = agrees;
    family = λ g i. s.family g (back i);
    granted = λ g b i. s.granted g b (back i);
    named = names_list;
    short = shorts;
    called = calls_list;
    retained = λ k z is i e on. old_retained k z is i e (few z (said_back i) e on);
    nothing = nothings;
  }

  -- ---- and one that is retained

  module _ (serial : tops.is_serial (uid_number root) ≡ true) (had_since : (h : ℕ) (l : Kept) → N.kept h ≡ Some l → N.had h l.since ≡ true)
      (more : (z : Said) → Contains r.said z → z.x ≡ x → coord.is_retained z.path d ≡ true →
      (coord.is_retained z.path c ≡ true) ⊎ ((is_on z.path t ≡ true) × (is_spent z.path c.tree ≡ false))) where
    abbrev root_kept : Option Kept
    root_kept = or_else (lists_after S (uid_number t) N.kept (S.root (uid_number t))) (lists_after S (uid_number t) N.kept (uid_number t))

    not_root : (w : Uid) → IsTopOf tops root w → (uid_number w == S.root (uid_number t)) ≡ false
    not_root w of = falls_to (uid_number w == S.root (uid_number t))
        (λ e. never serial (ap tops.is_serial (sym t_root ∙ sym (test_is (uid_number w) (S.root (uid_number t)) e)) ∙ of.plain))

    kept_other : (w : Uid) → IsTopOf tops root w → (let M = retained S (uid_number t) (record N
        { kept = lists_after S (uid_number t) N.kept }) in M.kept (uid_number w)) ≡ lists_after S (uid_number t) N.kept (uid_number w)
    kept_other w of = ap (λ b. if b then root_kept else lists_after S (uid_number t) N.kept (uid_number w)) (not_root w of)

    pub list_too : (w : Uid) (k : Known) → IsTopOf tops root w → HasList (record N { kept = lists_after S (uid_number t) N.kept })
        (uid_number w) k → HasList (retained S (uid_number t) (record N { kept = lists_after S (uid_number t) N.kept })) (uid_number w) k
    list_too w k of h = record { kept = h.kept; there = kept_other w of ∙ h.there; since = h.since; within = h.within }

    had_root : (i : ℕ) → (N.had (S.root (uid_number t)) i ≡ true) ⊎ (N.had (uid_number t) i ≡ true) →
        (let M = retained S (uid_number t) (record N { kept = lists_after S (uid_number t) N.kept }) in M.had (uid_number root) i) ≡ true
    had_root i h = put_cases (λ f. f i ≡ true) (S.root (uid_number t)) (λ j. N.had (S.root (uid_number t)) j || N.had (uid_number t) j)
        N.had (uid_number root)
        (λ e. ⊎_elim (λ a. or_left (N.had (S.root (uid_number t)) i) (N.had (uid_number t) i) a)
        (λ b. or_right (N.had (S.root (uid_number t)) i) (N.had (uid_number t) i) b) h)
        (λ other. absurd (never (ap (λ z. uid_number root == z) t_root ∙ test_same (uid_number root)) other))

    had_rises : (z i : ℕ) → N.had z i ≡ true →
        (let M = retained S (uid_number t) (record N { kept = lists_after S (uid_number t) N.kept }) in M.had z i) ≡ true
    had_rises z i h = put_cases (λ f. f i ≡ true) (S.root (uid_number t)) (λ j. N.had (S.root (uid_number t)) j || N.had (uid_number t) j)
        N.had z (λ e. or_left (N.had (S.root (uid_number t)) i) (N.had (uid_number t) i) (ap (λ w. N.had w i) (sym e) ∙ h)) (λ other. h)

    kept_root : (let M = retained S (uid_number t) (record N { kept = lists_after S (uid_number t) N.kept }) in M.kept (uid_number root))
        ≡ root_kept
    kept_root = ap (λ b. if b then root_kept else lists_after S (uid_number t) N.kept (uid_number root))
        (ap (λ z. uid_number root == z) t_root ∙ test_same (uid_number root))

    some_left : (a b : Option Kept) (l : Kept) → a ≡ Some l → or_else a b ≡ Some l
    some_left a b l e = ap (λ o. or_else o b) e

    some_right : (a b : Option Kept) (l : Kept) → b ≡ Some l → (m : Kept) × (or_else a b ≡ Some m)
    some_right None b l e = (l, e)
    some_right (Some m) b l e = (m, refl)

    of_either : (a b : Option Kept) (l : Kept) → or_else a b ≡ Some l → (a ≡ Some l) ⊎ (b ≡ Some l)
    of_either None b l e = inr e
    of_either (Some m) b l e = inl e

    pub retained_too : (k : Known) → HasRetained (record N { kept = lists_after S (uid_number t) N.kept }) (uid_number root) k →
        HasRetained (retained S (uid_number t) (record N { kept = lists_after S (uid_number t) N.kept })) (uid_number root) k
    retained_too k h = record {
      had = had_rises (uid_number root) (let b = k.binding in b.inc) h.had;
      kept = h.kept;
      there = kept_root ∙ some_left (lists_after S (uid_number t) N.kept (S.root (uid_number t)))
          (lists_after S (uid_number t) N.kept (uid_number t)) h.kept (ap (lists_after S (uid_number t) N.kept) t_root ∙ h.there);
    }

    -- what a call of the top counts on is the root's from now on
    handed : (k : Known) → HasList (record N { kept = lists_after S (uid_number t) N.kept }) (uid_number t) k
        ⊎ HasRetained (record N { kept = lists_after S (uid_number t) N.kept }) (uid_number root) k →
        HasRetained (retained S (uid_number t) (record N { kept = lists_after S (uid_number t) N.kept })) (uid_number root) k
    handed k (inr h) = retained_too k h
    handed k (inl h) =
        let m = some_right (lists_after S (uid_number t) N.kept (S.root (uid_number t)))
        (lists_after S (uid_number t) N.kept (uid_number t)) h.kept h.there in
        record {
          had = had_root (let b = k.binding in b.inc) (inr
              (ap (N.had (uid_number t)) h.since ∙ since_had (N.kept (uid_number t)) refl (sym (in_root (uid_number t) t_root) ∙ h.there)));
          kept = m.0;
          there = kept_root ∙ m.1;
        }
      where
        since_had : (o : Option Kept) → N.kept (uid_number t) ≡ o →
            with_list (S.plan (uid_number t)) (S.got (uid_number t)) o ≡ Some h.kept → N.had (uid_number t) h.kept.since ≡ true
        since_had None e f = absurd (cc f)
        since_had (Some v) e f =
            let same : record { since = v.since; list = list_after (S.plan (uid_number t)) (S.got (uid_number t)) v.list }
            ≡ h.kept = some_is refl f in ap (N.had (uid_number t)) (ap (λ (z : Kept). z.since) (sym same)) ∙ had_since (uid_number t) v e

    pub lists_retained : SeesLists x tops root d q (retained S (uid_number t) (record N { kept = lists_after S (uid_number t) N.kept }))
    lists_retained = record {
      agree = λ k h l is of e since. ⊎_elim
          (λ (same : h ≡ root). ⊎_elim
          (λ a. agrees k root l is (inl refl) (ap (lists_after S (uid_number t) N.kept) (sym t_root) ∙ a) since)
          (λ b. agrees k t l is (inr top) b since)
          (of_either (lists_after S (uid_number t) N.kept (S.root (uid_number t))) (lists_after S (uid_number t) N.kept (uid_number t)) l
          (sym kept_root ∙ ap (λ w. (let M = retained S (uid_number t) (record N { kept = lists_after S (uid_number t) N.kept }) in
          M.kept (uid_number w))) (sym same) ∙ e)))
          (λ o. agrees k h l is (inr o) (sym (kept_other h o) ∙ e) since) of;
      family = λ g i. s.family g (back i);
      granted = λ g b i e f. let y = s.granted g b (back i) e f in (had_rises (uid_number g.top) b.inc y.0, y.1);
      named = λ k g is i e on. list_too g.top k (s.family g (back i)) (names_list k g is i e on);
      short = shorts;
      called =
          λ k z w is i e off on of. ⊎_elim (λ h. inl (list_too w k of h)) (λ h. inr (retained_too k h)) (calls_list k z w is i e off on of);
      retained = λ k z is i e on. ⊎_elim (λ old. retained_too k (old_retained k z is i e old))
          (λ new. handed k (calls_list k z t is i e (after.spent z (said_back i) ∙ new.1) new.0 top)) (more z (said_back i) e on);
      nothing = nothings;
    }

pub decisions_keep_lists : DecisionsKeepLists
decisions_keep_lists x tops root t c d r q p S N fixed s top own_root says after few =
    lists_kept x tops root t c d r q p S N fixed s top own_root says after few

pub retained_lists_are_seen : RetainedListsAreSeen
retained_lists_are_seen x tops root t c d r q p S N fixed s had_since top own_root serial says after more =
    lists_retained x tops root t c d r q p S N fixed s top own_root says after serial had_since more
