-- The journal stays tied to the machine's state that is seen.
use Rattle.arj_law_parts.proofs.Words
use Words.{◌≡◌, ◌≢◌, ◌≤◌, ◌⊎◌, ◌∙◌, ◌+◌, ◌++◌, ℕ, List, [], ◌∷◌, length, true, false, Option, Some, refl, sym, ap, subst, inl, inr, ⊎_elim}
use Words.{arith, Contains, list_all, and_parts, in_from, in_to, Body, Kind, Label, Line, Message, Uid, name, Tree, branch_of}
use Words.{numbered, Seen, is_serial}
use Words.list
use Words.body
use Words.kind
use Rattle.arj_law_lock_view.proofs.Terms
use Terms.{StandsFor, Placed, acts, recovered, Values, Action, act_of, AreQuiet, is_quiet_line, AreDistinct, Act, is_action}
use Terms.{State}
use Terms.{IsUntouched, ChangesOne, SameEnd, committed_at, OnlyNaming, OnlyServing, View, HasStopped, OnlyStopped, IsOnPage, Page, AreNamed}
use Terms.{ArePlain, CallsStay, EndsStay, AreHereOrGone, Case, IsSeenIn, Spot, world_at, coord_at, Fixed, view_of, ArePast, IsPast}
use Terms.{IsUnbegun, AreTied, BeginNone}
use Terms.model
use Terms.machine as state
use Rattle.arj_law_lock_view.proofs.journal
use journal.{Reading.more, Ties.says_none, Ties.ties_are_kept}
use journal.Pages.{acts_still, append_nil, append_one, parts_say_plain, plains_are_tied, same_stay, tied_same}
use journal.StopTies.{begins_are_tied, halts_are_tied, old_records_are_tied}
use Rattle.arj_law_lock_view.proofs.view.TreeSteps.{action_kind}
use Rattle.arj_law_lock_view.specs.view.Stops.{HasEnded}
use Rattle.arj_law_runs.proofs.journal.Models.{AreSound, act_there, found_there, its_acts, its_sound}
use Rattle.arj_law_runs.proofs.journal.Walks.{its_own}
use Rattle.arj_law_runs.specs.journal.{Book.book, Book.new_book, Paths.AreAlike, Right.AreRight}

-- ---- lines

-- lines at which no action begins leave the journal's actions
pub acts_none : (e : ℕ) (bs : List Body) (lines : List Line) → BeginNone bs → acts (lines ++ numbered e bs) ≡ acts lines
acts_none e [] lines none = ap acts (append_nil lines)
acts_none e (b ∷ bs) lines none = ap acts (sym (append_one lines (numbered e bs) (record { event = e; body = b })))
    ∙ acts_none e bs (more lines e b) none.1 ∙ acts_still lines e b none.0

pub none_both : (bs cs : List Body) → BeginNone bs → BeginNone cs → BeginNone (bs ++ cs)
none_both [] cs a b = b
none_both (x ∷ bs) cs a b = (a.0, none_both bs cs a.1 b)

pub plain_none : (bs : List Body) → ArePlain bs → BeginNone bs
plain_none [] all = tt
plain_none (b ∷ bs) all = ((let s = says_none [] b all.0 in s.begun), plain_none bs all.1)

quiet_plain : (bs : List Body) → AreQuiet bs → ArePlain bs
quiet_plain [] all = tt
quiet_plain (b ∷ bs) all = let p = and_parts (is_quiet_line b) (list_all is_quiet_line bs) all in
    (parts_say_plain.0 b p.0, quiet_plain bs p.1)

-- an action of the journal was begun
alike_owned : (begun : List Action) (xs : List model.Act) → AreAlike begun xs → (a : model.Act) → list.In a xs →
    (b : Action) × list.In b begun × (act_of b ≡ a.uid) × (b.kind ≡ a.kind)
alike_owned [] [] alike a i = absurd i
alike_owned [] (x ∷ xs) alike a i = absurd alike
alike_owned (b ∷ begun) [] alike a i = absurd i
alike_owned (b ∷ begun) (x ∷ xs) alike a (inl is) =
    (b, inl refl, sym alike.0 ∙ ap (λ (y : model.Act). y.uid) is, sym alike.1 ∙ ap (λ (y : model.Act). y.kind) is)
alike_owned (b ∷ begun) (x ∷ xs) alike a (inr i) = let r = alike_owned begun xs alike.3 a i in (r.0, inr r.1, r.2, r.3)

unserial_kind : (k : Kind) → is_serial k ≡ false → k ≢ kind.Serial
unserial_kind k off is = let bad : true ≡ false = sym (ap is_serial is) ∙ off in cc bad

-- coordinators' parts of the machine are as they were
pub record IsMoved (S T : State) : Type 0 where
  pub action : T.action ≡ S.action
  pub calls : T.calls ≡ S.calls
  pub includes : T.includes ≡ S.includes
  pub initial : T.initial ≡ S.initial
  pub now : T.now ≡ S.now

pub moved_then : (S T U : State) → IsMoved S T → IsMoved T U → IsMoved S U
moved_then S T U a b = record {
  action = b.action ∙ a.action;
  calls = b.calls ∙ a.calls;
  includes = b.includes ∙ a.includes;
  initial = b.initial ∙ a.initial;
  now = b.now ∙ a.now;
}

pub moved_serving : (v : View) (m : Message) (S T : State) → OnlyServing v m S T → IsMoved S T
moved_serving v m S T only = record {
  action = ap (λ (z : State). z.action) only.rest;
  calls = ap (λ (z : State). z.calls) only.rest;
  includes = ap (λ (z : State). z.includes) only.rest;
  initial = ap (λ (z : State). z.initial) only.rest;
  now = ap (λ (z : State). z.now) only.rest;
}

pub moved_named : (S T : State) → OnlyNaming S T → IsMoved S T
moved_named S T only = record {
  action = ap (λ (z : State). z.action) only.rest;
  calls = ap (λ (z : State). z.calls) only.rest;
  includes = ap (λ (z : State). z.includes) only.rest;
  initial = ap (λ (z : State). z.initial) only.rest;
  now = ap (λ (z : State). z.now) only.rest;
}

-- ---- a state to which lines are tied

module _ (f : Fixed) (x : ℕ) (begun : List Action) where
  -- the journal's actions have places in the machine and were begun, and it is tied
  pub record IsTiedNow (S : State) (lines : List Line) : Type 0 where
    pub named : AreNamed f.act lines
    pub owned : (a : model.Act) → Contains (acts lines) a → (b : Action) × Contains begun b × (act_of b ≡ a.uid)
    pub tied : AreTied f x lines S

  -- with lines at which no action begins
  pub tied_behind : (e : ℕ) (bs : List Body) (S T : State) (lines : List Line) → BeginNone bs → IsTiedNow S lines →
      AreTied f x (lines ++ numbered e bs) T → IsTiedNow T (lines ++ numbered e bs)
  tied_behind e bs S T lines none now tied = let same = acts_none e bs lines none in record {
    named = record {
      distinct = subst (λ us. AreDistinct us) (sym same) now.named.distinct;
      one = now.named.one;
      actions = λ a there plain. now.named.actions a (subst (λ us. Contains us a) same there) plain;
    };
    owned = λ a there. now.owned a (subst (λ us. Contains us a) same there);
    tied = tied;
  }

  -- where only what servers and naming have changed
  pub tied_moved : (S T : State) (lines : List Line) → IsMoved S T → IsTiedNow S lines → IsTiedNow T lines
  tied_moved S T lines moved z = record {
    named = z.named;
    owned = z.owned;
    tied = λ values is. (let t = z.tied values is in tied_same f.act f.code (record { lines = lines; event = 0; values = values }) x S T
        z.named (let n = t.now in let e = moved.now in omega (arith, n, e)) moved.initial (moved.calls, moved.includes) ends t);
  }
    where
      ends : EndsStay S T
      ends a its = subst (λ (g : Act → state.Action). SameEnd (S.action a) (g a)) (sym moved.action)
          (record { stage = refl; place = refl; done = refl })

  pub tied_plain : (e : ℕ) (bs : List Body) (S : State) (lines : List Line) → ArePlain bs → IsTiedNow S lines →
      IsTiedNow S (lines ++ numbered e bs)
  tied_plain e bs S lines plain z = tied_behind e bs S S lines (plain_none bs plain) z (λ values is.
      plains_are_tied f.act f.code values x e lines bs S S z.named refl refl (refl, refl) (same_stay S) plain (z.tied values is))

  pub tied_quiet : (e : ℕ) (bs : List Body) (S : State) (lines : List Line) → AreQuiet bs → IsTiedNow S lines →
      IsTiedNow S (lines ++ numbered e bs)
  tied_quiet e bs S lines quiet z = tied_plain e bs S lines (quiet_plain bs quiet) z

  -- ---- a node stops

  -- each action of the journal that was begun at the node is of the tree, or has ended
  here_or_gone : (k : ℕ) (t : Tree) (S : State) (lines : List Line) → ArePast (view_of f x begun k) t S → IsTiedNow S lines →
      AreHereOrGone f.act k t lines S
  here_or_gone k t S lines past z a there plain home =
      let b = z.owned a there in
      ⊎_elim
      (λ here. inl (here.0, subst (λ (w : Uid). branch_of w t ≡ Some here.0) b.2 here.1))
      (λ (gone : IsPast (view_of f x begun k) (act_of b.0) S). inr (subst (λ (w : Uid). HasEnded (S.action (f.act w))) b.2
      (gone.ended (ap (λ (w : Uid). is_action (f.act w)) b.2 ∙ z.named.actions a there plain))))
      (past b.0 b.1 (ap (λ (w : Uid). w.node) b.2 ∙ home))

  pub tied_halts : (e k : ℕ) (t : Tree) (last : Option Uid) (S T : State) (lines : List Line) → t.node ≡ k → ArePast (view_of f x begun k) t
      S → HasStopped f.act t last T → OnlyStopped f.act t S T → IsTiedNow S lines → AreTied f x (lines ++ numbered e (body.Halted k ∷ [])) T
  tied_halts e k t last S T lines node past stopped only z values is = halts_are_tied f.act f.code values x e k lines t last S T z.named
      node (here_or_gone k t S lines past z) stopped only (z.tied values is)

  -- so it is of one that was down
  pub tied_down : (e k : ℕ) (t : Tree) (last : Option Uid) (S : State) (lines : List Line) → ArePast (view_of f x begun k) t S →
      HasStopped f.act t last S → IsTiedNow S lines → AreTied f x (lines ++ numbered e (body.Halted k ∷ [])) S
  tied_down e k t last S lines past stopped z values is = ties_are_kept f.act f.code values x e lines (body.Halted k) S S z.named refl
      (let t = z.tied values is in let n = t.now in omega (arith, n))
      ((refl, refl), (λ a there plain other. same a), (λ a there plain home. (inl (same a), far a there plain home))) (z.tied values is)
    where
      same : (a : model.Act) → SameEnd (S.action (f.act a.uid)) (S.action (f.act a.uid))
      same a = record { stage = refl; place = refl; done = refl }

      high : (k : ℕ) → (k ≡ 3) ⊎ (k ≡ 4) → 2 ≤ k
      high k (inl e) = omega (arith, e)
      high k (inr e) = omega (arith, e)

      far : (a : model.Act) → Contains (acts lines) a → is_serial a.kind ≡ false → a.uid.node ≡ k → 2 ≤ (S.action (f.act a.uid)).stage
      far a there plain home = ⊎_elim
          (λ here. ⊎_elim (λ its_last. (let q = stopped.top a.uid its_last in let e = q.3 in omega (arith, e)))
          (high (S.action (f.act a.uid)).stage) (stopped.each a.uid here.0 here.1 (z.named.actions a there plain)))
          (high (S.action (f.act a.uid)).stage)
          (here_or_gone k t S lines past z a there plain home)

  -- ---- a restart finds a record

  pub tied_found : (e k : ℕ) (w : Uid) (S T : State) (lines : List Line) → T.initial ≡ S.initial → CallsStay S T → T.now ≤ length lines + 2
      → (S.action (f.act w)).stage ≤ 2 → ChangesOne (f.act w) (committed_at (length lines + 1) (S.action (f.act w))) S T →
      IsTiedNow S lines → IsTiedNow T (lines ++ numbered e (body.Recovered k w ∷ []))
  tied_found e k w S T lines first calls now low changes z = tied_behind e (body.Recovered k w ∷ []) S T lines (refl, tt) z (λ values is.
      ties_are_kept f.act f.code values x e lines (body.Recovered k w) S T z.named first now (calls, inr (low, changes)) (z.tied values is))

  pub tied_again : (e k : ℕ) (w : Uid) (S : State) (lines : List Line) → (S.action (f.act w)).stage ≡ 3 → IsTiedNow S lines →
      IsTiedNow S (lines ++ numbered e (body.Recovered k w ∷ []))
  tied_again e k w S lines three z = tied_behind e (body.Recovered k w ∷ []) S S lines (refl, tt) z
      (λ values is. old_records_are_tied f.act f.code values x e k lines w S z.named three (z.tied values is))

  -- ---- an action begins

  pub tied_begins : (e : ℕ) (l : Label) (how : Kind) (u : Uid) (parent : Option Label) (S : State) (lines : List Line) →
      AreRight new_book lines → IsUnbegun begun u → IsUntouched (S.action (f.act u)) → IsTiedNow S lines →
      AreTied f x (lines ++ numbered e (body.Began l how u parent ∷ [])) S
  tied_begins e l how u parent S lines right unbegun untouched z values is =
      begins_are_tied f.act f.code values x e lines l how u parent S z.named untouched unfound (z.tied values is)
    where
      unfound : (r : Placed Uid) → Contains (recovered lines) r → r.it ≢ u
      unfound r there same =
          let a = act_there (acts lines) r.it (found_there lines right r (in_from r (recovered lines) there)) in
          let b = z.owned a.0 (in_to a.0 (acts lines) a.1) in
          unbegun b.0 b.1 (b.2 ∙ a.2 ∙ same)

-- ---- where the object is seen

module _ (c : Case) (M : Seen) (is_seen : IsSeenIn c M) where
  same_acts : (let B = book M.lines in B.acts) ≡ acts M.lines
  same_acts = let w = is_seen.written in its_acts M.lines w.right

  owned : (a : model.Act) → list.In a (acts M.lines) → (b : Action) × list.In b c.begun × (act_of b ≡ a.uid) × (b.kind ≡ a.kind)
  owned a i = alike_owned c.begun (acts M.lines) (subst (AreAlike c.begun) same_acts is_seen.alike) a i

  sound : AreSound (acts M.lines)
  sound = let w = is_seen.written in its_sound M.lines w.right

  pub tied_now : IsTiedNow c.fixed c.x c.begun c.state M.lines
  tied_now = record {
    named = record {
      distinct = sound.distinct;
      one = (let a = is_seen.agrees in let w = a.whole in let l = w.alike in l.one);
      actions = λ a there plain.
          let o = owned a (in_from a (acts M.lines) there) in
          let b = o.0 in
          subst (λ (u : Uid). is_action (let f = c.fixed in f.act u) ≡ true) o.2
          (action_kind (let f = c.fixed in f.act (act_of b)) b.kind (λ serial. unserial_kind a.kind plain (sym o.3 ∙ serial))
          (let g = is_seen.agrees in let w = g.whole in w.placed b (in_to b c.begun o.1)));
    };
    owned = λ a there. let o = owned a (in_from a (acts M.lines) there) in (o.0, in_to o.0 c.begun o.1, o.2);
    tied = is_seen.tied;
  }

-- a coordinator's page
abbrev pub page_at : Spot → ℕ → Values → Page
page_at s e values = record { lines = (let M = s.seen in M.lines); event = e; values = values }

pub on_page : (c : Case) (s : Spot) (e : ℕ) (is_seen : IsSeenIn c (world_at s)) (values : Values) →
    StandsFor c.fixed (values c.x) →
    IsOnPage (let f = c.fixed in f.act) (let f = c.fixed in f.code) c.x (page_at s e values) (coord_at s) c.state
on_page c s e is_seen values is = record {
  named = let t = tied_now c (world_at s) is_seen in t.named;
  labels = λ u b d found works.
      let o = its_own s.node s.disk (Some s.parts) s.seen is_seen.written in
      let l = o.live s.parts refl in
      let k = (let n = l.knows in n.acts) u b d found works in
      (k.act, ap (λ us. model.act_in us (name d.label)) (sym (same_acts c (world_at s) is_seen)) ∙ k.named, k.uid, k.kind);
  tied = is_seen.tied values is;
}
