-- Each surviving call is locked for in the journal's tables at each place, and entries are for calls and includes, where the machine of the
-- object was seen at each.
use Rattle.arj_law_parts.proofs.Words
use Words.{◌≡◌, ◌<◌, ◌≤◌, ◌+◌, ◌∙◌, ◌==◌, ◌&&◌, ℕ, zero, suc, List, [], ◌∷◌, length, take, slice_get, eqb-true, Bool, true, false, Option}
use Words.{Some, None, refl, sym, ap, subst, inl, inr, arith, Contains, AllByRecursion, list_all, list_any, ◌||◌, and_parts, Row, is_on}
use Words.{last_uid, entry, In, in_filter, in_from, in_to, Body, Line, name, uids_of, Seen, IsWrittenIn, caller_at, joins_top, joins_with}
use Words.{locks_call, locks_entry, writes_entry, HoldsEach}
use Words.body
use Rattle.arj_law_serial.proofs.Terms
use Terms.{Act, Begun, Placed, acts, acts_after, acts_from, begun_of, chain_in, committed, has_end, numbered, path, put, read, top_in, uids}
use Terms.{Said, Top, committed_calls, said_of, tops, Inclusion, included, included_of, Values, unit_place, locks_for, unit_end, Action}
use Terms.{act_of, paths_of, new_book, called_of, AreAlike, IsAlikeOf, AreRight, AreSound, its_acts, its_sound, State, acts_of, AgreesAs}
use Terms.{Fixed, SeesLocks, AreTied, code_of, IsHeldByUpper, IsSeenAt, ran_at, IsCalled, RequestsAreOne, AreApart, Began, IsTied, path_of}
use Rattle.arj_law_runs.proofs.journal.Books.{never}
use Rattle.arj_law_serial.proofs.holding
use holding.{Acted.HasActs, Names.IsNamed, Places.IsPlaced}
use holding.Placing.{entry_there, locked_there, unit_line, written_there}
use Rattle.arj_law_serial.proofs.order
use order.{Begun.path_same, Codes.codes_are_apart, Paths.own_there}
use order.Locks.{answered, at_one_node, called_by, last_top, read_below, read_taken, tie}
use order.Order.{IsShown, shown, top_item}
use order.Seeing.{agrees_at, fixed_at, tied_at, tree}
use Rattle.arj_model.specs.{Calls.Call, Calls.said, Held.AreAtOneNode, Held.IsHeldAt, Held.tables_of}
use Rattle.std.proofs.Math.Bool.{Bool-set}
use Rattle.arj_law_serial.proofs.joint.Starting.{stands_for}

-- ---- lines by which no action began

none_before : (us : List Act) (ls : List Line) → acts_from us ls ≡ [] → us ≡ []
none_before us [] none = none
none_before us (l ∷ ls) none = by (begun_of l.body) (none_before (acts_after us l.body) ls none)
  where
    by : (o : Option Begun) → numbered us o ≡ [] → us ≡ []
    by None is = is
    by (Some b) is = absurd (cc is)

-- who answers a call then has no path
no_path : (us : List Act) (n : ℕ) (ls : List Line) → acts_from us ls ≡ [] → (s : Placed Said) → In s (read said_of us n ls) → s.it.path ≡ []
no_path us n [] none s i = absurd i
no_path us n (l ∷ ls) none s i = by l.body (none_before us (l ∷ ls) none) i (no_path (acts_after us l.body) (n + 1) ls none s)
  where
    by : (b : Body) → us ≡ [] → In s (put n (said_of us b) (read said_of (acts_after us l.body) (n + 1) ls)) →
        (In s (read said_of (acts_after us l.body) (n + 1) ls) → s.it.path ≡ []) → s.it.path ≡ []
    by (body.Ok m x o a) empty (inl is) rest = sym (ap (λ (z : Placed Said). z.it.path) is) ∙ ap (λ (vs : List Act). path vs (name m)) empty
    by (body.Ok m x o a) empty (inr j) rest = rest j
    by b empty j rest = rest j

-- nor has who included then
no_joins : (us : List Act) (n : ℕ) (ls : List Line) → acts_from us ls ≡ [] → (s : Placed Inclusion) → In s (read included_of us n ls) →
    s.it.path ≡ []
no_joins us n [] none s i = absurd i
no_joins us n (l ∷ ls) none s i = by l.body (none_before us (l ∷ ls) none) i (no_joins (acts_after us l.body) (n + 1) ls none s)
  where
    by : (b : Body) → us ≡ [] → In s (put n (included_of us b) (read included_of (acts_after us l.body) (n + 1) ls)) →
        (In s (read included_of (acts_after us l.body) (n + 1) ls) → s.it.path ≡ []) → s.it.path ≡ []
    by (body.Includes m x k) empty (inl is) rest =
        sym (ap (λ (z : Placed Inclusion). z.it.path) is) ∙ ap (λ (vs : List Act). path vs (name m)) empty
    by (body.Includes m x k) empty (inr j) rest = rest j
    by b empty j rest = rest j

-- a line of a journal stands before its end
got_less : (ls : List Line) (j : ℕ) (l : Line) → slice_get ls j ≡ Some l → j < length ls
got_less [] j l is = absurd (cc is)
got_less (k ∷ ls) zero l is = omega arith
got_less (k ∷ ls) (suc j) l is = let less = got_less ls j l is in omega (arith, less)

-- ---- one object

-- all that is held of an object's calls and includes at each line
pub record OfEach (lines : List Line) (x : ℕ) : Type 0 where
  pub node : Call → ℕ
  pub answered : (c : Call) → In c (committed_calls lines) → c.x ≡ x → c.at < unit_end lines c
  pub held : (c : Call) → In c (committed_calls lines) → c.x ≡ x → (p : ℕ) → c.at < p → p ≤ unit_end lines c →
      list_any (locks_call lines c) (tables_of lines (node c) p) ≡ true
  pub entries : (c : Call) → In c (committed_calls lines) → c.x ≡ x → (p : ℕ) → c.at < p → p ≤ unit_end lines c →
      list_any (locks_entry lines c) (tables_of lines 1 p) ≡ true
  pub written : (u : Top) → In u (tops lines) → (i : Placed Inclusion) → In i (joins_with lines u) → i.it.x ≡ x → (p : ℕ) → i.at < p →
      p ≤ unit_place (tops lines) u.root → IsWrittenIn lines (tables_of lines 1 p) u x
  pub one : (c d : Call) → In c (committed_calls lines) → In d (committed_calls lines) → c.x ≡ x → d.x ≡ x → AreAtOneNode lines node c d

-- an action that was begun is one of the journal, of the same kind
journal_has : (begun : List Action) (xs : List Act) → AreAlike begun xs → (a : Action) → In a begun →
    (b : Act) × In b xs × (b.uid ≡ act_of a) × (b.kind ≡ a.kind)
journal_has [] xs alike a i = absurd i
journal_has (c ∷ begun) [] alike a i = absurd alike
journal_has (c ∷ begun) (x ∷ xs) alike a (inl is) = (x, inl refl, alike.0 ∙ ap act_of is, alike.1 ∙ ap (λ (z : Action). z.kind) is)
journal_has (c ∷ begun) (x ∷ xs) alike a (inr i) = let r = journal_has begun xs alike.3 a i in (r.0, inr r.1, r.2, r.3)

module _ (values : Values) (x : ℕ) (M : Seen) (begun : List Action) (alike : IsAlikeOf begun M) (seen : (f : Fixed) → AreApart f.code →
    AgreesAs values M.start.marks f x begun M.sent → (S : State) × SeesLocks f x begun S M × AreTied f x M.lines S)
    (knows : RequestsAreOne M) where
  abbrev lines : List Line
  lines = M.lines

  -- the codes and places, and the last state of the machine
  abbrev pub fixed : Fixed
  fixed = fixed_at values x M begun alike seen knows code_of

  abbrev pub agreed : AgreesAs values M.start.marks fixed x begun M.sent
  agreed = agrees_at values x M begun alike seen knows code_of

  abbrev pub last : State
  last = (seen fixed codes_are_apart agreed).0

  abbrev t : IsTied values lines x last
  t = let g = seen fixed codes_are_apart agreed in tied_at values x M begun alike seen knows g.0 g.1 g.2

  right : AreRight new_book lines
  right = let q = alike.2 in q.right

  sound : AreSound (acts lines)
  sound = its_sound lines right

  its_action : (a : Action) → Contains begun a → (b : Act) × Began lines b × (b.uid ≡ act_of a) × (b.kind ≡ a.kind)
  its_action a there = let r = journal_has begun (acts lines) (subst (AreAlike begun) (its_acts lines right) alike.1) a
      (in_from a begun there) in (r.0, in_to r.0 (acts lines) r.1, r.2, r.3)

  -- whose paths are those of the journal
  its_path : (a : Action) → Contains begun a → (b : Act) × Began lines b × (uids_of a.path ≡ uids (path_of lines b))
  its_path a there =
      let alike_acts = subst (AreAlike begun) (its_acts lines right) alike.1 in
      let whole = tree values x M begun alike seen knows in
      let r = journal_has begun (acts lines) alike_acts a (in_from a begun there) in
      let b = r.0 in
      let began : Began lines b = in_to b (acts lines) r.1 in (
        b,
        began,
        sym (whole.agree a there) ∙ sym (ap (paths_of begun) r.2)
            ∙ path_same begun (paths_of begun) (acts_of begun) lines right alike_acts whole b began,
      )

  abbrev Shows : Call → Type 0
  Shows c = IsShown values lines right x last (tie values lines right x last t) c

  -- a unit ends by a line of the journal
  end_there : (c : Call) → Shows c → unit_end lines c ≤ length lines
  end_there c s =
      let u = last_top values lines right x last t c s in
      let i = top_item lines right u.0 u.1 in
      let below = read_below called_of [] 0 lines (record { at = (let v = u.0 in v.at); it = (let a = i.act in a.id) }) i.call in
      let at = u.3 in
      omega (arith, below, at)

  -- an action began before a call was answered
  acted : (c : Call) → Shows c → (p : ℕ) → c.at < p → HasActs (take p lines)
  acted c s p behind none =
      some (path_of lines (let m = s.made_by in m.maker)) (sym (let m = s.made_by in m.path_is) ∙ no_path [] 0 (take p lines) none s.item
      at) (own_there (acts lines) sound.distinct sound.formed (let m = s.made_by in m.maker) (let m = s.made_by in m.there))
    where
      at : In s.item (said (take p lines))
      at = read_taken said_of [] 0 lines p s.item s.item_there (let a = s.line in let i = s.is in let b = i.line in
          omega (arith, a, b, behind))

      some : (q : List Act) → q ≡ [] → In (let m = s.made_by in m.maker) q → ⊥
      some q is i = subst (λ (z : List Act). In (let m = s.made_by in m.maker) z) is i

  module _ (placed : (p : ℕ) → p ≤ length lines → HasActs (take p lines) → IsPlaced fixed x begun last lines p) where
    held_at : (c : Call) → Shows c → (p : ℕ) → c.at < p → p ≤ unit_end lines c →
        list_any (locks_call lines c) (tables_of lines (ran_at values lines x last t c) p) ≡ true
    held_at c s p behind within =
        let h = placed p (let e = end_there c s in omega (arith, e, within)) (acted c s p behind) in
        let at : IsSeenAt values lines x last t h.front =
        record {
          state = h.state;
          before = h.run;
          behind = h.behind;
          tied = h.tied values (stands_for values M.start.marks x fixed
              (let a = agreed in a.1));
        } in
        h.shown (ran_at values lines x last t c) (locks_call lines c)
        (locked_there values lines right x last t c s h.front p behind within h.place at h.servers h.to h.incs h.actives h.rows
        (λ n r i of. let k = h.known n r i in let b = its_path k.0 k.1 in (b.0, b.1, k.2 ∙ b.2)) h.sees)

    -- where naming was seen, as it was there
    abbrev Named : ℕ → Type 0
    Named p = IsNamed fixed x begun last lines p

    abbrev seen_at : (p : ℕ) (q : Named p) → IsSeenAt values lines x last t q.front
    seen_at p q = record {
      state = q.state;
      before = q.run;
      behind = q.behind;
      tied = q.tied values
          (stands_for values M.start.marks x fixed (let a = agreed in a.1));
    }

    its_askers : (p : ℕ) (q : Named p) (r : Row) → Contains q.rows r → r.object ≡ entry x → IsHeldByUpper lines r
    its_askers p q r i of = let k = q.known r i in let b = its_action k.0 k.1 in (b.0, b.1, k.2 ∙ sym b.2, λ nested. k.3 (sym b.3 ∙ nested))

    entry_at : (c : Call) → Shows c → (p : ℕ) → c.at < p → p ≤ unit_end lines c →
        list_any (locks_entry lines c) (tables_of lines 1 p) ≡ true
    entry_at c s p behind within =
        let h = placed p (let e = end_there c s in omega (arith, e, within)) (acted c s p behind) in
        let q : Named p = h.named in
        q.shown (locks_entry lines c)
        (entry_there values lines right x last t c s q.front p behind within q.place (seen_at p q) q.rows (its_askers p q) q.sees)

    written_at : (u : Top) → In u (tops lines) → (i : Placed Inclusion) → In i (joins_with lines u) → i.it.x ≡ x → (p : ℕ) → i.at < p →
        p ≤ unit_place (tops lines) u.root → IsWrittenIn lines (tables_of lines 1 p) u x
    written_at u listed i there object p behind within =
        let f = in_filter (λ (z : Placed Inclusion). joins_top lines u z (top_in z.it.path)) i (included lines) there in
        by f.0 (top_in i.it.path) refl f.1
      where
        bound : p ≤ length lines
        bound = let l = unit_line lines right u.root p (omega (arith, behind)) within in
            let less = got_less lines (unit_place (tops lines) u.root) l.0 l.1 in omega (arith, less, within)

        -- an action began before it
        joined : In i (included lines) → (a : Act) → top_in i.it.path ≡ Some a → HasActs (take p lines)
        joined j a is none =
            let empty = no_joins [] 0 (take p lines) none i (read_taken included_of [] 0 lines p i j (omega (arith, behind))) in
            let no_way : ◌≡◌ {A = Option Act} None (Some a) = sym (ap top_in empty) ∙ is in
            cc no_way

        by : In i (included lines) → (o : Option Act) → top_in i.it.path ≡ o → joins_top lines u i o ≡ true →
            IsWrittenIn lines (tables_of lines 1 p) u x
        by j None is e = absurd (cc e)
        by j (Some a) is e =
            let z = and_parts (a.id == u.id) (list_all (λ (b : Act). has_end (committed lines) b.id) (chain_in i.it.path)) e in
            let h = placed p bound (joined j a is) in
            let q : Named p = h.named in
            q.shown (writes_entry lines x u.root)
            (written_there values lines right x last t u listed i j object a is (eqb-true a.id u.id z.0) z.1 q.front p behind within q.place
            (seen_at p q) q.locks q.rows
            (record {
              servers = q.locks_seen;
              naming = q.sees;
              holders = λ n r k of. let w = q.locks_known n r k in let b = its_path w.0 w.1 in (b.0, b.1, w.2 ∙ b.2);
              askers = its_askers p q;
            }))

    -- all of the object
    pub of_each : OfEach lines x
    of_each = record {
      node = ran_at values lines x last t;
      answered = λ c i object. answered values lines right x last t c (is_shown c i object);
      held = λ c i object. held_at c (is_shown c i object);
      entries = λ c i object. entry_at c (is_shown c i object);
      written = written_at;
      one = λ c d i j cx dx apart same less within.
          at_one_node values lines right x last t c d (is_shown c i cx) (is_shown d j dx) apart less within;
    }
      where
        is_shown : (c : Call) → In c (committed_calls lines) → c.x ≡ x → Shows c
        is_shown c i object = shown values lines right x last (tie values lines right x last t) c i object

-- ---- all objects

-- whatever passes two tests passes the first
first_of_both : {A : Type 0} (f g : A → Bool) (xs : List A) → list_any (λ a. f a && g a) xs ≡ true → list_any f xs ≡ true
first_of_both f g [] is = is
first_of_both f g (x ∷ xs) is = by (f x) (g x) is (first_of_both f g xs)
  where
    by : (a b : Bool) → ((a && b) || list_any (λ y. f y && g y) xs) ≡ true →
        (list_any (λ y. f y && g y) xs ≡ true → list_any f xs ≡ true) → (a || list_any f xs) ≡ true
    by true b h ih = refl
    by false b h ih = ih h

each_of : {A : Type 0} (P : A → Type 0) (cs : List A) → ((c : A) → In c cs → P c) → AllByRecursion P cs
each_of P [] f = tt
each_of P (c ∷ cs) f = (f c (inl refl), each_of P cs (λ d i. f d (inr i)))

module _ (lines : List Line) (values : Values) (object_of : (x : ℕ) → IsCalled x lines →
    OfEach lines x) (include_of : (i : Placed Inclusion) → In i (included lines) → OfEach lines i.it.x) where
  abbrev is_called : ℕ → Bool
  is_called x = list_any (λ (s : Placed Said). s.it.x == x) (said lines)

  -- at which node a call of an object ran
  abbrev node_at : (x : ℕ) (b : Bool) → is_called x ≡ b → Call → ℕ
  node_at x true e c = let o = object_of x e in o.node c
  node_at x false e c = 0

  abbrev node_of : Call → ℕ
  node_of c = node_at c.x (is_called c.x) refl c

  node_same : (x : ℕ) (b : Bool) (e : is_called x ≡ b) (c : Call) → (f : is_called x ≡ true) →
      node_at x b e c ≡ (let o = object_of x f in o.node c)
  node_same x true e c f = ap (λ g. let o = object_of x g in o.node c) (Bool-set (is_called x) true e f)
  node_same x false e c f = never f e

  there : (c : Call) → In c (committed_calls lines) → is_called c.x ≡ true
  there c i = called_by values lines c i

  its_node : (c : Call) (i : In c (committed_calls lines)) → node_of c ≡ (let o = object_of c.x (there c i) in o.node c)
  its_node c i = node_same c.x (is_called c.x) refl c (there c i)

  lock_at : (c : Call) → In c (committed_calls lines) → (p : ℕ) → c.at < p → p ≤ unit_end lines c →
      list_any (locks_call lines c) (tables_of lines (node_of c) p) ≡ true
  lock_at c i p behind within = let o = object_of c.x (there c i) in
      subst (λ n. list_any (locks_call lines c) (tables_of lines n p) ≡ true) (sym (its_node c i)) (o.held c i refl p behind within)

  pub held_each : HoldsEach lines
  held_each = record {
    node = node_of;
    held = each_of (λ c. IsHeldAt lines (tables_of lines) (node_of c) c) (committed_calls lines) (λ c i. record {
      answered = let o = object_of c.x (there c i) in o.answered c i refl;
      locked = λ p behind within. first_of_both (locks_for lines c) (λ (r : Row). is_on (caller_at c.at (said lines)) (last_uid r.holder))
          (tables_of lines (node_of c) p) (lock_at c i p behind within);
    });
    callers = each_of (λ (c : Call). (p : ℕ) → c.at < p → p ≤ unit_end lines c →
        list_any (locks_call lines c) (tables_of lines (node_of c) p) ≡ true) (committed_calls lines) lock_at;
    entries = each_of (λ (c : Call). (p : ℕ) → c.at < p → p ≤ unit_end lines c → list_any (locks_entry lines c) (tables_of lines 1 p)
        ≡ true) (committed_calls lines) (λ c i. let o = object_of c.x (there c i) in o.entries c i refl);
    includes = each_of (λ (u : Top). AllByRecursion (λ (i : Placed Inclusion). (p : ℕ) → i.at < p → p ≤ unit_place (tops lines) u.root →
        IsWrittenIn lines (tables_of lines 1 p) u i.it.x) (joins_with lines u)) (tops lines)
        (λ u listed. each_of (λ (i : Placed Inclusion). (p : ℕ) → i.at < p → p ≤ unit_place (tops lines) u.root →
        IsWrittenIn lines (tables_of lines 1 p) u i.it.x) (joins_with lines u)
        (λ i joins. let f = in_filter (λ (z : Placed Inclusion). joins_top lines u z (top_in z.it.path)) i (included lines) joins in
        let o = include_of i f.0 in o.written u listed i joins refl));
    at_one = each_of (λ c. AllByRecursion (AreAtOneNode lines node_of c) (committed_calls lines)) (committed_calls lines)
        (λ c i. each_of (AreAtOneNode lines node_of c) (committed_calls lines) (λ d j apart same less within.
        let o = object_of c.x (there c i) in
        its_node c i ∙ o.one c d i j refl (sym same) apart same less within ∙ sym (node_same c.x (is_called c.x) refl d (there c i))
        ∙ (λ k. node_at (same k) (is_called (same k)) refl d)));
  }
