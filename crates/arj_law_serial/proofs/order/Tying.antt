-- What a tie says of actions: which survive in the machine, by the journal.
use Rattle.arj_law_parts.proofs.Words
use Words.{◌≡◌, ℕ, ◌+◌, ◌&&◌, ◌||◌, not, List, [], ◌∷◌, Bool, true, false, cond, Some, None, refl, sym, ◌∙◌, ap, subst, inl, inr, ⊎_elim}
use Words.{AllByRecursion, list_all, list_any, and_parts, uid_is, uid_same, is_on, last_uid, uid_eq, Uid, Body, Kind, Line, In}
use Words.{in_from, in_to, is_serial}
use Rattle.arj_law_serial.proofs.Terms
use Terms.{Act, Placed, acts, acts_after, chain_in, committed, has_end, is_committed, put, read, recovered, recovered_of, top_in}
use Terms.{uids, Said, call_of, kept, kept_in, Values, Book, book_from, is_top, new_book, turned, IsDone, AreRight, Right, or_which, Stands}
use Terms.{one_act, stands_new, stands_turn, AreSound, act_there, acts_turn, its_acts, its_sound, on_path, on_uids, is_action, on, State}
use Terms.{Survives, Holds, run_keeps, start_holds, IsCallOf, HasPlaces, path_of}
use Terms.body
use Terms.kind
use Terms.machine
use Terms.state
use Rattle.arj_law_runs.proofs.journal.{Books.never, Likes.some_is}
use Rattle.arj_law_serial.proofs.order
use order.{Items.said_maker, Ties.Tie}
use order.Paths.{IsShaped, chain_on, own_last, own_top, parts, paths_stay, top_on, well}
use Rattle.arj_model.specs.Calls.{Call, said}

-- ---- ends of nested actions

-- a restart finds the records of tops alone
found_from : (B : Book) (n : ℕ) (ls : List Line) → AreRight B ls → Stands B → (u : Placed Uid) → In u (read recovered_of B.acts n ls) →
    (a : Act) × In a (let V = book_from B ls in V.acts) × (a.uid ≡ u.it) × (is_top a.kind ≡ true)
found_from B n [] right s u i = absurd i
found_from B n (l ∷ ls) right s u i = by l.body right.0 right.1 i (λ j. found_from (turned B l.body) (n + 1) ls right.1
    (stands_turn B l.body right.0 s) u (subst (λ xs. In u (read recovered_of xs (n + 1) ls)) (sym (acts_turn B l.body)) j))
  where
    by : (b : Body) → Right B b → AreRight (turned B b) ls →
        In u (put n (recovered_of B.acts b) (read recovered_of (acts_after B.acts b) (n + 1) ls))
        → (In u (read recovered_of (acts_after B.acts b) (n + 1) ls) →
        (a : Act) × In a (let V = book_from (turned B b) ls in V.acts) × (a.uid ≡ u.it) × (is_top a.kind ≡ true))
        → (a : Act) × In a (let V = book_from (turned B b) ls in V.acts) × (a.uid ≡ u.it) × (is_top a.kind ≡ true)
    by (body.Recovered k w) r rest (inl is) ih =
        let sane = s.sane in
        let closes = s.closes in
        let a = act_there B.acts w (sane.called w r.called) in (
          a.0,
          (paths_stay (turned B (body.Recovered k w)) ls a.0 rest a.1).1,
          a.2 ∙ ap (λ (z : Placed Uid). z.it) is,
          closes.calls a.0 a.1 (ap (is_on B.called) a.2 ∙ r.called),
        )
    by (body.Recovered k w) r rest (inr j) ih = ih j
    by b r rest j ih = ih j

-- who is named in a list of Uids
named_one : (u : Uid) (xs : List (Placed Uid)) → list_any (λ (e : Placed Uid). uid_eq e.it u) xs ≡ true →
    (e : Placed Uid) × In e xs × (e.it ≡ u)
named_one u [] is = absurd (cc is)
named_one u (e ∷ xs) is = ⊎_elim (λ here. (e, inl refl, uid_is e.it u here)) (λ there. let r = named_one u xs there in
    (r.0, inr r.1, r.2)) (or_which (uid_eq e.it u) (list_any (λ (z : Placed Uid). uid_eq z.it u) xs) is)

or_yes : (a b : Bool) → a ≡ true → (a || b) ≡ true
or_yes a b e = ap (λ c. c || b) e

uid_on : (xs : List Act) (x : Act) → In x xs → is_on (uids xs) x.uid ≡ true
uid_on [] x i = absurd i
uid_on (y ∷ ys) x (inl same) =
    or_yes (uid_eq y.uid x.uid) (is_on (uids ys) x.uid) (ap (λ (z : Act). uid_eq z.uid x.uid) same ∙ uid_same x.uid)
uid_on (y ∷ ys) x (inr i) = by (uid_eq y.uid x.uid) (uid_on ys x i)
  where
    by : (b : Bool) → is_on (uids ys) x.uid ≡ true → (b || is_on (uids ys) x.uid) ≡ true
    by true ih = refl
    by false ih = ih

pub all_in : (p : Act → Bool) (xs : List Act) → ((x : Act) → In x xs → p x ≡ true) → list_all p xs ≡ true
all_in p [] each = refl
all_in p (x ∷ xs) each = ap (λ b. b && list_all p xs) (each x (inl refl)) ∙ all_in p xs (λ y i. each y (inr i))

pub in_all : (p : Act → Bool) (xs : List Act) → list_all p xs ≡ true → (x : Act) → In x xs → p x ≡ true
in_all p [] all x i = absurd i
in_all p (y ∷ ys) all x (inl is) = ap p (sym is) ∙ (and_parts (p y) (list_all p ys) all).0
in_all p (y ∷ ys) all x (inr i) = in_all p ys (and_parts (p y) (list_all p ys) all).1 x i

pub all_at : {A : Type 0} (P : A → Type 0) (xs : List A) → AllByRecursion P xs → (x : A) → In x xs → P x
all_at P [] all x i = absurd i
all_at P (y ∷ ys) all x (inl is) = subst P is all.0
all_at P (y ∷ ys) all x (inr i) = all_at P ys all.1 x i

module _ (lines : List Line) (right : AreRight new_book lines) where
  sound : AreSound (acts lines)
  sound = its_sound lines right

  pub shape_of : (a : Act) → IsShaped (path_of lines a)
  shape_of a = (well (acts lines) sound.formed a.label).0

  -- a nested action is committed by its own line
  pub nested_end : (b : Act) → In b (acts lines) → is_top b.kind ≡ false → IsDone lines b → has_end (committed lines) b.id ≡ true
  nested_end b i nested done = ⊎_elim (λ own. own) (λ found.
      let e = named_one b.uid (recovered lines) found in
      let a = subst (λ xs. (a : Act) × In a xs × (a.uid ≡ e.0.it) × (is_top a.kind ≡ true)) (its_acts lines right)
      (found_from new_book 0 lines right stands_new e.0 e.1) in
      never (ap (λ (y : Act). is_top y.kind) (sym (one_act (acts lines) sound.distinct a.0 b a.1 i (a.2 ∙ e.2))) ∙ a.3) nested)
      (or_which (has_end (committed lines) b.id) (list_any (λ (u : Placed Uid). uid_eq u.it b.uid) (recovered lines)) done)

  pub nested_kind : (b : Act) → b.kind ≡ kind.Nested → (is_top b.kind ≡ false) × (is_serial b.kind ≡ false)
  nested_kind b e = (ap is_top e, ap is_serial e)

  pub chain_nested : (a b : Act) → In b (chain_in (path_of lines a)) → (is_top b.kind ≡ false) × (is_serial b.kind ≡ false)
  chain_nested a b i =
      nested_kind b (all_at (λ (y : Act). y.kind ≡ kind.Nested) (chain_in (path_of lines a)) (let s = shape_of a in s.below) b i)

-- ---- a tie

module _ (values : Values) (lines : List Line) (right : AreRight new_book lines) (x : ℕ) (S : State) (tied : Tie values lines x S) where
  places : HasPlaces tied.act lines
  places = tied.places

  sure : AreSound (acts lines)
  sure = its_sound lines right

  -- ---- paths

  pub acts_are : (a : Act) → In a (acts lines) → is_serial a.kind ≡ false → is_action (tied.act a.uid) ≡ true
  acts_are a i plain = places.actions a (in_to a (acts lines) i) ∙ ap not plain

  pub plain_is : (a : Act) → In a (acts lines) → is_action (tied.act a.uid) ≡ true → is_serial a.kind ≡ false
  plain_is a i action = by (is_serial a.kind) (sym (places.actions a (in_to a (acts lines) i)) ∙ action)
    where
      by : (s : Bool) → not s ≡ true → s ≡ false
      by true e = absurd (cc e)
      by false e = refl

  pub member : (a b : Act) → In b (path_of lines a) → In b (acts lines)
  member a b j = on_path (acts lines) a.label b j

  pub on_it : (a b : Act) → In a (acts lines) → In b (path_of lines a) → on (tied.act a.uid) (tied.act b.uid) ≡ true
  on_it a b i j = places.above a b (in_to a (acts lines) i) (in_to b (acts lines) (member a b j)) ∙ uid_on (path_of lines a) b j

  -- who stands on the path in the machine stands on it
  pub from_on : (a b : Act) → In a (acts lines) → In b (acts lines) → on (tied.act a.uid) (tied.act b.uid) ≡ true → In b (path_of lines a)
  from_on a b i j on_act =
      let f = on_uids (path_of lines a) b.uid (sym (places.above a b (in_to a (acts lines) i) (in_to b (acts lines) j)) ∙ on_act) in
      subst (λ y. In y (path_of lines a)) (one_act (acts lines) sure.distinct f.0 b (member a f.0 f.1) j f.2) f.1

  -- ---- who survives

  pub survive_done : (a b : Act) → In a (acts lines) → Survives S (tied.act a.uid) → In b (path_of lines a) → is_serial b.kind ≡ false →
      IsDone lines b
  survive_done a b i survives j plain = let s = tied.actions b (in_to b (acts lines) (member a b j)) plain in
      s.only (survives (tied.act b.uid) (on_it a b i j) (acts_are b (member a b j) plain))

  pub done_survives : (a : Act) → In a (acts lines) → ((b : Act) → In b (path_of lines a) → is_serial b.kind ≡ false → IsDone lines b) →
      Survives S (tied.act a.uid)
  done_survives a i done u on_act action =
      let f = places.filled a u (in_to a (acts lines) i) on_act action in
      let b = in_from f.0 (acts lines) f.1 in
      let plain = plain_is f.0 b (ap is_action (sym f.2) ∙ action) in
      let s = tied.actions f.0 f.1 plain in
      ap (λ m. (S.action m).stage) f.2 ∙ s.done (done f.0 (from_on a f.0 i b (ap (on (tied.act a.uid)) (sym f.2) ∙ on_act)) plain)

  -- ---- a call

  -- A call of the object: who made it, and its top.
  pub record IsMade (s : Placed Said) (c : state.Call) : Type 0 where
    pub maker : Act
    pub there : In maker (acts lines)
    pub path_is : s.it.path ≡ path_of lines maker
    pub caller : c.act ≡ tied.act maker.uid
    pub plain : is_serial maker.kind ≡ false
    pub top : Act
    pub top_is : top_in (path_of lines maker) ≡ Some top
    pub top_there : In top (acts lines)

  pub made : (s : Placed Said) (c : state.Call) → In s (said lines) → machine.In c S.calls → IsCallOf tied.act tied.code s c → IsMade s c
  made s c i j is =
      let m = said_maker lines right s i in
      let caller = is.caller ∙ ap (λ p. tied.act (last p)) m.path_is
      ∙ ap tied.act (own_last (acts lines) sure.distinct sure.formed m.act m.there) in
      let holds : Holds S = run_keeps tied.run (start_holds (tied.code (values x) tied.writer)) in
      let action = let h = holds.calls c j in h.acts in
      let plain = plain_is m.act m.there (ap is_action (sym caller) ∙ action) in
      let t = own_top (acts lines) sure.distinct sure.formed m.act m.there plain in
      record {
        maker = m.act;
        there = m.there;
        path_is = m.path_is;
        caller = caller;
        plain = plain;
        top = t.0;
        top_is = t.1;
        top_there = member m.act t.0 (top_on (path_of lines m.act) t.0 t.1);
      }
    where
      last : List Act → Uid
      last p = last_uid (uids p)

  module _ (s : Placed Said) (c : state.Call) (m : IsMade s c) where
    kept_is : kept (committed lines) (recovered lines) s ≡ cond (list_all (λ (a : Act). has_end (committed lines) a.id) (chain_in s.it.path)
        && is_committed (committed lines) (recovered lines) m.top) (Some (call_of s m.top)) None
    kept_is = ap (kept_in (committed lines) (recovered lines) s) (ap top_in m.path_is ∙ m.top_is)

    -- a call that is kept
    pub record IsKeptSo (k : Call) : Type 0 where
      pub same : call_of s m.top ≡ k
      pub below : (b : Act) → In b (chain_in (path_of lines m.maker)) → has_end (committed lines) b.id ≡ true
      pub top_done : IsDone lines m.top

    pub kept_so : (k : Call) → kept (committed lines) (recovered lines) s ≡ Some k → IsKeptSo k
    kept_so k e = by (list_all (λ (a : Act). has_end (committed lines) a.id) (chain_in s.it.path)
        && is_committed (committed lines) (recovered lines) m.top) refl (sym kept_is ∙ e)
      where
        by : (t : Bool) → (list_all (λ (a : Act). has_end (committed lines) a.id) (chain_in s.it.path)
            && is_committed (committed lines) (recovered lines) m.top) ≡ t → cond t (Some (call_of s m.top)) None ≡ Some k → IsKeptSo k
        by true is f =
            let p = and_parts (list_all (λ (a : Act). has_end (committed lines) a.id) (chain_in s.it.path))
            (is_committed (committed lines) (recovered lines) m.top) is in
            record {
              same = some_is (call_of s m.top) k f;
              below = λ b i. in_all (λ (a : Act). has_end (committed lines) a.id) (chain_in s.it.path) p.0 b
                  (subst (λ q. In b (chain_in q)) (sym m.path_is) i);
              top_done = p.1;
            }
        by false is f = absurd (cc f)

    pub kept_survives : (k : Call) → kept (committed lines) (recovered lines) s ≡ Some k → Survives S c.act
    kept_survives k e =
        let q = kept_so k e in
        subst (Survives S) (sym m.caller) (done_survives m.maker m.there (λ b i plain. ⊎_elim
        (λ is. subst (IsDone lines) is q.top_done)
        (λ j. or_yes (has_end (committed lines) b.id) (list_any (λ (u : Placed Uid). uid_eq u.it b.uid) (recovered lines)) (q.below b j))
        (parts (path_of lines m.maker) m.top b m.top_is i plain)))

    pub survives_kept : Survives S c.act → kept (committed lines) (recovered lines) s ≡ Some (call_of s m.top)
    survives_kept survives =
        let here = subst (Survives S) m.caller survives in
        let top_plain = by_kind m.top.kind (let h = shape_of lines right m.maker in h.tops m.top m.top_is) in
        let top_done = survive_done m.maker m.top m.there here (top_on (path_of lines m.maker) m.top m.top_is) top_plain in
        let below = all_in (λ (a : Act). has_end (committed lines) a.id) (chain_in (path_of lines m.maker)) (λ b i.
        let k = chain_nested lines right m.maker b i in
        let j = chain_on (path_of lines m.maker) b i in
        nested_end lines right b (member m.maker b j) k.0 (survive_done m.maker b m.there here j k.1)) in
        kept_is ∙ ap (λ t. cond (t && is_committed (committed lines) (recovered lines) m.top) (Some (call_of s m.top)) None)
        (ap (λ q. list_all (λ (a : Act). has_end (committed lines) a.id) (chain_in q)) m.path_is ∙ below)
        ∙ ap (λ t. cond t (Some (call_of s m.top)) None) top_done
      where
        by_kind : (k : Kind) → is_top k ≡ true → is_serial k ≡ false
        by_kind kind.Nested e = absurd (cc e)
        by_kind kind.Serial e = absurd (cc e)
        by_kind kind.Top e = refl
        by_kind kind.Constituent e = refl
        by_kind kind.Independent e = refl
