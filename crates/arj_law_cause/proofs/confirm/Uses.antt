-- What a unit uses by lines: an access that survives in a top is a use of the object, a committed top of the same root is one of the unit,
-- and as lines come it stays so.
use Rattle.arj_law_parts.proofs.Words
use Words.{◌≡◌, ◌⊎◌, ◌∙◌, ◌==◌, ◌&&◌, ◌++◌, ◌+◌, ℕ, Bool, true, false, cond, List, [], ◌∷◌, Option, Some, None, refl, sym, ap, subst}
use Words.{inl, inr, ⊎_elim, and_parts, eq-eqb, list_all, list_any, is_on, uid_eq, name, In, Body, Line, Uid}
use Words.body
use Rattle.arj_law_disk_view.proofs.Terms.{or_left, or_right}
use Rattle.arj_law_runs.proofs.journal.Books.{committed_decided}
use Rattle.arj_law_runs.proofs.journal.Models.{its_decision}
use Rattle.arj_law_serial.proofs.Terms
use Terms.{Access, Act, AreRight, Book, IsDone, Placed, Right, Said, Top, acts, acts_after, acts_turn, any_in, book, book_from}
use Terms.{call_of, chain_in, committed, committing_of, committings, has_end, ids, includes_in, is_committed, is_of_store, is_top, its_acts}
use Terms.{joins_of, lasts_in, named_in, named_label, new_book, on_path, path, path_of, put, read, recovered, root_in}
use Terms.{root_or, said_of, tells, top_by, top_in, tops, turned, with_access}
use Rattle.arj_law_serial.proofs.joint.JoinModel.{joined}
use Rattle.arj_law_serial.proofs.order
use order.Order.{head_of, same_number, top_for, top_item}
use order.Paths.{chain_on, paths_stay, top_on}
use order.Tying.{chain_nested, in_all, nested_end}
use order.Values.{to_filter}
use Rattle.arj_law_serial.specs.joint.Joins.{acts_of}
use Rattle.arj_model.specs.Actions.{committed_of, recovered_of}
use Rattle.arj_model.specs.Calls.{Call, made, made_by, made_in, said, surviving, top_of}
use Rattle.arj_model.specs.CausePends.{has_some, unit_uses, uses}
use Rattle.arj_model.specs.CauseSpans.{holds_in}
use Rattle.arj_model.specs.Refusals.{is_root}
use Rattle.arj_model.specs.Serial.{touches}
use Rattle.arj_law_cause.proofs.kinds.Asking.{any_later}
use Rattle.arj_law_cause.proofs.kinds.Over.{or_later, read_later}
use Rattle.arj_law_cause.proofs.votes.{Growing.among_some, Growing.any_made, Growing.uses_more, Surviving.all_ids, Surviving.made_of}

-- ---- calls

-- a line among these says the call that this access is
abbrev IsSaidBy : List Act → List (Placed Said) → Access → Type 0
IsSaidBy all ss e = (s : Placed Said) × In s ss × (s.it.path ≡ path all (let c = e.act in c.label)) × (s.it.x ≡ e.x)

said_before : (all : List Act) (n : ℕ) (o : Option Said) (ss : List (Placed Said)) (e : Access) → IsSaidBy all ss e →
    IsSaidBy all (put n o ss) e
said_before all n None ss e (s, i, path, x) = (s, i, path, x)
said_before all n (Some a) ss e (s, i, path, x) = (s, inr i, path, x)

-- an access that is no include is a call that a line says
said_from : (n : ℕ) (B : Book) (ls : List Line) → AreRight B ls → (e : Access) → e.store ≡ None →
    In e (let W = book_from B ls in W.accesses) →
    In e B.accesses ⊎ IsSaidBy (let W = book_from B ls in W.acts) (read said_of B.acts n ls) e
said_from n B [] right e none i = inl i
said_from n B (l ∷ ls) right e none i =
    by l.body right.0 right.1 (subst (λ xs. In e (let V = turned B l.body in V.accesses)
    ⊎ IsSaidBy (let W = book_from (turned B l.body) ls in W.acts) (read said_of xs (n + 1) ls) e) (acts_turn B l.body)
    (said_from (n + 1) (turned B l.body) ls right.1 e none i))
  where
    Later : Body → Type 0
    Later b = In e (let V = turned B b in V.accesses)
        ⊎ IsSaidBy (let W = book_from (turned B b) ls in W.acts) (read said_of (acts_after B.acts b) (n + 1) ls) e

    Now : Body → Type 0
    Now b = In e B.accesses ⊎ IsSaidBy (let W = book_from (turned B b) ls in W.acts)
        (put n (said_of B.acts b) (read said_of (acts_after B.acts b) (n + 1) ls)) e

    more : (b : Body) → IsSaidBy (let W = book_from (turned B b) ls in W.acts) (read said_of (acts_after B.acts b) (n + 1) ls) e → Now b
    more b s = inr (said_before (let W = book_from (turned B b) ls in W.acts) n (said_of B.acts b)
        (read said_of (acts_after B.acts b) (n + 1) ls) e s)

    by : (b : Body) → Right B b → AreRight (turned B b) ls → Later b → Now b
    by (body.Ok m x o q) r rest (inl j) =
        new (subst (λ z. In e (with_access z x None B.accesses)) (let p = r.1 in p.named) j)
      where
        new : In e (with_access (Some r.0) x None B.accesses) → Now (body.Ok m x o q)
        new (inl same) =
            let a = r.0 in
            let p = r.1 in
            let s = paths_stay (turned B (body.Ok m x o q)) ls a rest (named_in B.acts (name m) a p.named) in
            inr (
              record { at = n; it = record { path = path B.acts (name m); x = x; op = o; answer = q } },
              inl refl,
              ap (path B.acts) (sym (named_label B.acts (name m) a p.named)) ∙ sym s.0
                  ∙ ap (λ (z : Access). path (let W = book_from (turned B (body.Ok m x o q)) ls in W.acts) (let c = z.act in c.label)) same,
              ap (λ (z : Access). z.x) same,
            )
        new (inr i) = inl i
    by (body.Ok m x o q) r rest (inr s) = more (body.Ok m x o q) s
    by (body.Includes m x k) r rest (inl j) =
        new (subst (λ z. In e (with_access z x (Some k) B.accesses)) (let p = r.1 in p.named) j)
      where
        new : In e (with_access (Some r.0) x (Some k) B.accesses) → Now (body.Includes m x k)
        new (inl same) = let no_way : ◌≡◌ {A = Option ℕ} (Some k) None = ap (λ (z : Access). z.store) same ∙ none in absurd (cc no_way)
        new (inr i) = inl i
    by (body.Includes m x k) r rest (inr s) = more (body.Includes m x k) s
    by (body.Began m k u p) r rest (inl j) = inl j
    by (body.Began m k u p) r rest (inr s) = more (body.Began m k u p) s
    by b r rest (inl j) = inl j
    by b r rest (inr s) = more b s

-- ---- tops

-- the top is of the action's root, and uses the object
abbrev of_root : List Line → Act → ℕ → Top → Bool
of_root lines a x t = is_root (Some t.root) (root_in (path_of lines a)) && uses lines t.id x

module _ (lines : List Line) (right : AreRight new_book lines) where
  abbrev B : Book
  B = book lines

  -- the action committed by the book, and is a top: it is done
  done : (a : Act) → In a (acts lines) → is_on B.committed a.uid ≡ true → IsDone lines a
  done a i on = its_decision lines right a i ∙ committed_decided B a.uid on

  module _ (x : ℕ) (a : Act) (there : In a (acts lines)) where
    -- a call that survives in the top is a use
    called : (e : Access) → In e B.accesses → e.x ≡ x → e.store ≡ None →
        lasts_in (is_on B.committed) a.uid (acts_of B e) (top_in (acts_of B e)) ≡ true → list_any (touches x) (surviving lines a.id) ≡ true
    called e i at none lasts = ⊎_elim {C = list_any (touches x) (surviving lines a.id) ≡ true} (λ never. absurd never)
        (λ s. of s.0 s.1 (s.2 ∙ ap (λ xs. path xs (let c = e.act in c.label)) (its_acts lines right)) (s.3 ∙ at)
        (subst (λ xs. lasts_in (is_on B.committed) a.uid (path xs (let c = e.act in c.label)) (top_in (path xs (let c = e.act in c.label)))
        ≡ true) (its_acts lines right) lasts))
        (said_from 0 new_book lines right e none i)
      where
        of : (s : Placed Said) → In s (said lines) → s.it.path ≡ path_of lines e.act → s.it.x ≡ x →
            lasts_in (is_on B.committed) a.uid (path_of lines e.act) (top_in (path_of lines e.act)) ≡ true →
            list_any (touches x) (surviving lines a.id) ≡ true
        of s i path_is object lasts = by (top_in (path_of lines e.act)) refl lasts
          where
            by : (o : Option Act) → top_in (path_of lines e.act) ≡ o → lasts_in (is_on B.committed) a.uid (path_of lines e.act) o ≡ true →
                list_any (touches x) (surviving lines a.id) ≡ true
            by None is last = absurd (cc last)
            by (Some t) is last = any_in (touches x) (call_of s t) (surviving lines a.id) survivor (eq-eqb s.it.x x object)
              where
                parts : (uid_eq t.uid a.uid ≡ true)
                    × (list_all (λ (b : Act). is_on B.committed b.uid) (chain_in (path_of lines e.act)) ≡ true)
                parts = and_parts (uid_eq t.uid a.uid)
                    (list_all (λ (b : Act). is_on B.committed b.uid) (chain_in (path_of lines e.act))) last

                member : (b : Act) → In b (path_of lines e.act) → In b (acts lines)
                member b j = on_path (acts lines) (let c = e.act in c.label) b j

                number : (t.id == a.id) ≡ true
                number = tells lines right a there t (member t (top_on (path_of lines e.act) t is)) ∙ parts.0

                below : (b : Act) → In b (chain_in (path_of lines e.act)) → has_end (committed lines) b.id ≡ true
                below b j =
                    let b_there = member b (chain_on (path_of lines e.act) b j) in
                    nested_end lines right b b_there (chain_nested lines right e.act b j).0 (done b b_there
                    (in_all (λ (c : Act). is_on B.committed c.uid) (chain_in (path_of lines e.act)) parts.1 b j))

                survivor : In (call_of s t) (surviving lines a.id)
                survivor =
                    to_filter (λ (z : Call). list_all (has_end (committed lines)) z.chain) (call_of s t) (made_by lines a.id)
                    (to_filter (λ (z : Call). z.top == a.id) (call_of s t) (made lines)
                    (made_of (λ (z : Placed Said). made_in z (top_in z.it.path)) s (call_of s t) (said lines) i
                    (ap (made_in s) (ap top_in path_is ∙ is))) number)
                    (ap (λ (p : List Act). list_all (has_end (committed lines)) (ids (chain_in p))) path_is
                    ∙ all_ids (has_end (committed lines)) (chain_in (path_of lines e.act)) below)

    -- so is an access of any kind
    pub used_by : (e : Access) → In e B.accesses → e.x ≡ x →
        lasts_in (is_on B.committed) a.uid (acts_of B e) (top_in (acts_of B e)) ≡ true → uses lines a.id x ≡ true
    used_by e i at lasts = by e.store refl
      where
        by : (o : Option ℕ) → e.store ≡ o → uses lines a.id x ≡ true
        by None none = or_left (list_any (touches x) (surviving lines a.id)) (has_some (joins_of lines a.id x)) (called e i at none lasts)
        by (Some k) some = or_right (list_any (touches x) (surviving lines a.id)) (has_some (joins_of lines a.id x))
            (among_some (joins_of lines a.id x) k (sym (joined lines right x a there k)
            ∙ any_in (includes_in B a.uid x k) e B.accesses i (λ j. lasts j && (eq-eqb e.x x at j
            && (ap (is_of_store k) some ∙ eq-eqb k k refl) j))))

  -- what the action uses its unit does; and what a committed top of its root uses
  pub unit_itself : (a : Act) (x : ℕ) → uses lines a.id x ≡ true → unit_uses lines a x ≡ true
  unit_itself a x on = or_left (uses lines a.id x) (list_any (of_root lines a x) (tops lines)) on

  pub unit_of : (a v : Act) (x : ℕ) → In v (acts lines) → is_top v.kind ≡ true → is_on B.committed v.uid ≡ true →
      root_in (path_of lines v) ≡ root_in (path_of lines a) → uses lines v.id x ≡ true → unit_uses lines a x ≡ true
  unit_of a v x there top on roots use_it =
      let t = top_for lines right v there top (done v there on) in
      let i = top_item lines right t.0 t.1 in
      let same = same_number lines right i.act v i.there there (i.number ∙ t.2) in
      let h = head_of lines right v there in
      let head : root_in (path_of lines a) ≡ Some (let z = h.0 in z.id) = sym roots ∙ h.2 in
      let root : (let z = t.0 in z.root) ≡ (let z = h.0 in z.id) = i.root_is
      ∙ ap (λ (z : Act). root_or z.id (root_in (path_of lines z))) same ∙ ap (root_or v.id) h.2 in
      or_right (uses lines a.id x) (list_any (of_root lines a x) (tops lines)) (any_in (of_root lines a x) t.0 (tops lines) t.1
      (λ j. (ap (is_root (Some (let z = t.0 in z.root))) head ∙ eq-eqb (let z = t.0 in z.root) (let z = h.0 in z.id) root) j
      && (ap (λ n. uses lines n x) t.2 ∙ use_it) j))

-- ---- more lines

module _ (ls ms : List Line) where
  -- whoever committed stays so
  done_more : (a : Act) → is_committed (committed ls) (recovered ls) a ≡ true →
      is_committed (committed (ls ++ ms)) (recovered (ls ++ ms)) a ≡ true
  done_more a is = or_later (has_end (committed ls) a.id) (list_any (λ (u : Placed Uid). uid_eq u.it a.uid) (recovered ls))
      (has_end (committed (ls ++ ms)) a.id) (list_any (λ (u : Placed Uid). uid_eq u.it a.uid) (recovered (ls ++ ms)))
      (read_later committed_of (λ (e : Placed ℕ). e.it == a.id) [] 0 ls ms)
      (read_later recovered_of (λ (u : Placed Uid). uid_eq u.it a.uid) [] 0 ls ms) is

  pub unit_more : (a : Act) (x : ℕ) → path_of (ls ++ ms) a ≡ path_of ls a → unit_uses ls a x ≡ true → unit_uses (ls ++ ms) a x ≡ true
  unit_more a x path_is on = or_later (uses ls a.id x) (list_any (of_root ls a x) (tops ls)) (uses (ls ++ ms) a.id x)
      (list_any (of_root (ls ++ ms) a x) (tops (ls ++ ms))) (uses_more ls ms a.id x) tops_more on
    where
      more : (m : Placed (List Act)) (o : Option Act) → holds_in (of_root ls a x) (top_by (committed ls) (recovered ls) m o) ≡ true →
          holds_in (of_root (ls ++ ms) a x) (top_by (committed (ls ++ ms)) (recovered (ls ++ ms)) m o) ≡ true
      more m None is = absurd (cc is)
      more m (Some t) is = by (is_committed (committed ls) (recovered ls) t) refl is
        where
          its : Top
          its = record { id = t.id; root = root_or t.id (root_in m.it); at = m.at }

          by : (b : Bool) → is_committed (committed ls) (recovered ls) t ≡ b → holds_in (of_root ls a x) (cond b (Some its) None) ≡ true →
              holds_in (of_root (ls ++ ms) a x) (top_by (committed (ls ++ ms)) (recovered (ls ++ ms)) m (Some t)) ≡ true
          by false not_yet on = absurd (cc on)
          by true was on =
              let p = and_parts (is_root (Some its.root) (root_in (path_of ls a))) (uses ls t.id x) on in
              ap (λ b. holds_in (of_root (ls ++ ms) a x) (cond b (Some its) None)) (done_more t was)
              ∙ (λ j. (ap (λ q. is_root (Some its.root) (root_in q)) path_is ∙ p.0) j && uses_more ls ms t.id x p.1 j)

      tops_more : list_any (of_root ls a x) (tops ls) ≡ true → list_any (of_root (ls ++ ms) a x) (tops (ls ++ ms)) ≡ true
      tops_more is =
          any_made (of_root (ls ++ ms) a x) (top_of (committed (ls ++ ms)) (recovered (ls ++ ms))) (committings (ls ++ ms))
          ∙ any_later (λ (m : Placed (List Act)). holds_in (of_root ls a x) (top_of (committed ls) (recovered ls) m))
          (λ (m : Placed (List Act)). holds_in (of_root (ls ++ ms) a x) (top_of (committed (ls ++ ms)) (recovered (ls ++ ms)) m))
          (λ m h. more m (top_in m.it) h) (committings (ls ++ ms))
          (read_later committing_of (λ (m : Placed (List Act)). holds_in (of_root ls a x) (top_of (committed ls) (recovered ls) m)) [] 0 ls ms
          (sym (any_made (of_root ls a x) (top_of (committed ls) (recovered ls)) (committings ls)) ∙ is))
