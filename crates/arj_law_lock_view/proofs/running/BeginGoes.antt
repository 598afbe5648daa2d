-- An action begins, in the whole world: all that was seen is seen with it.
use Rattle.arj_law_parts.proofs.Words
use Words.{◌||◌, ◌≡◌, ◌≢◌, ◌∙◌, ℕ, List, [], ◌∷◌, ◌++◌, true, false, Option, Some, None, refl, sym, ap, subst, inl, inr, ⊎_elim, Contains}
use Words.{uid_same, in_from, in_to, Kind, Label, Uid, first_uid, is_on, uids_of, actor, began_line, begin_action, Coord, no_root, root_at}
use Words.{Disk, Intent, Naming, Parts, with_coord, Branch, Tree, branch_of, next_uid, root_of, numbered, Seen}
use Words.ending
use Rattle.arj_law_lock_view.proofs.Terms
use Terms.{root, stay, State, Action, act_of, MayStand, on_own, grown_cases, grown_still, new, given, said, IsBeginning, SeesNamingIn}
use Terms.{HasEnded, Case, IsSeenIn, Spot, world_at, coord_at, Fixed, view_of, ArePast, AreRecordsOf, IsFresh, SeesMemory, SeesUp, AreTied}
use Rattle.arj_law_lock_view.proofs.running
use running.{GoodSteps.its, GoodSteps.steady, NameSteps.confirms_same, PostSteps.posts_stay, TieSteps.tied_begins, TieSteps.tied_now}
use running.OtherSteps.{confirms_of, SeesOthers, here_of, others_of, reached_of, said_others, with_here}
use Rattle.arj_law_lock_view.proofs.view.NewSteps.{begins_are_taken, place}
use Rattle.arj_law_lock_view.specs.running.Coordinating.{BeginsGo, beginning}
use Rattle.arj_law_parts.proofs.parts.GoodTrees.{new_there}
use Rattle.arj_law_parts.specs.parts.Actions.{Begins}

-- ---- one more action

module _ (f : Fixed) (x : ℕ) (begun : List Action) (a : Action) (S : State) where
  abbrev more : (b : Action) → Contains begun b → Contains (a ∷ begun) b
  more b i = in_to b (a ∷ begun) (inr (in_from b begun i))

  committed_more : (k : ℕ) (u : Uid) → HasEnded (view_of f x begun k) S u ending.Commit →
      HasEnded (view_of f x (a ∷ begun) k) S u ending.Commit
  committed_more k u h =
      record { action = h.action; begun = more h.action h.begun; of = h.of; unserial = h.unserial; committed = h.committed; over = h.over }

  records_more : (k : ℕ) (last : Option Uid) (js : List (Uid × Intent)) → AreRecordsOf (view_of f x begun k) last js S →
      AreRecordsOf (view_of f x (a ∷ begun) k) last js S
  records_more k last js records u i found = ⊎_elim (λ its_last. inl its_last) (λ so. inr (committed_more k u so)) (records u i found)

  naming_more : (k : ℕ) (o : Option Naming) → SeesNamingIn (view_of f x begun k) S o → SeesNamingIn (view_of f x (a ∷ begun) k) S o
  naming_more k None z = tt
  naming_more k (Some n) z =
      record { named = z.named; there = z.there; seen = z.seen; told = z.told; confirmed = z.confirmed; firsts = z.firsts }

  -- where the new one is of the tree, if it is of the node
  past_more : (k : ℕ) (t v : Tree) → ((u : Uid) (b : Branch) → branch_of u t ≡ Some b → branch_of u v ≡ Some b) → ((act_of a).node ≡ k →
      (b : Branch) × (branch_of (act_of a) v ≡ Some b)) → ArePast (view_of f x begun k) t S → ArePast (view_of f x (a ∷ begun) k) v S
  past_more k t v grows mine past b i home = ⊎_elim
      (λ (same : a ≡ b). inl (let q = mine (ap (λ (z : Action). (act_of z).node) same ∙ home) in
      (q.0, ap (λ (z : Action). branch_of (act_of z) v) (sym same) ∙ q.1)))
      (λ old. ⊎_elim (λ there. inl (there.0, grows (act_of b) there.0 there.1))
      (λ gone. inr (record { ended = gone.ended; over = gone.over })) (past b (in_to b begun old) home))
      (in_from b (a ∷ begun) i)

  memory_more : (k : ℕ) (d : Disk) (live : Option Parts) → (act_of a).node ≢ k → SeesMemory (view_of f x begun k) S d live →
      SeesMemory (view_of f x (a ∷ begun) k) S d live
  memory_more k d None away z = record {
    server = z.server;
    naming = z.naming;
    tree = z.tree;
    last = z.last;
    stopped = z.stopped;
    decided = z.decided;
    home = z.home;
    past = past_more k z.tree z.tree (λ u b found. found) (λ here. absurd (away here)) z.past;
    records = records_more k z.last d.intents z.records;
  }
  memory_more k d (Some t) away z = record {
    server = z.server;
    coord = z.coord;
    naming = naming_more k t.naming z.naming;
    inc = z.inc;
    place = z.place;
    home = z.home;
    past = past_more k t.coord.tree t.coord.tree (λ u b found. found) (λ here. absurd (away here)) z.past;
    records = records_more k None d.intents z.records;
  }

  fresh_more : IsFresh f begun S → IsFresh f (a ∷ begun) S
  fresh_more z = record { actions = λ u un. z.actions u (λ b i. un b (more b i)); units = λ n none. z.units n (λ b i. none b (more b i)) }

  others_more : (k e : ℕ) (M : Seen) → (act_of a).node ≡ k → SeesOthers f x begun k S M → SeesOthers f x (a ∷ begun) k S M
  others_more k e M home z = record {
    run = z.run;
    nodes = λ j n other is. memory_more j n.disk n.live (λ at. other (sym at ∙ home)) (z.nodes j n other is);
    absent = λ j other is. (let q = z.absent j other is in (q.0, memory_more j q.0 None (λ at. other (sym at ∙ home)) q.1));
    confirms = z.confirms;
    posts = λ p there.
        posts_stay f x begun (a ∷ begun) M.sent M.sent p S S more (λ r i. i) (reached_of f x begun k S M z) stay (z.posts p there);
    fresh = fresh_more z.fresh;
    now = z.now;
  }

-- ---- it begins

module _ (c : Case) (s : Spot) (is_seen : IsSeenIn c (world_at s)) (l : Label) (how : Kind) (parent : Option Label) (above : Option Branch)
    (begins : Begins (beginning how above (coord_at s)) c.begun)
    (may : MayStand (let f = c.fixed in f.paths) how (let q = coord_at s in q.tree) (let a = beginning how above (coord_at s) in a.path))
    (empty : root_at (next_uid (let q = coord_at s in q.tree)) (coord_at s) ≡ no_root) where
  abbrev f : Fixed
  f = c.fixed

  abbrev k : ℕ
  k = s.node

  abbrev S : State
  S = c.state

  abbrev C : Coord
  C = coord_at s

  abbrev u : Uid
  u = next_uid C.tree

  abbrev a : Action
  a = beginning how above C

  abbrev E : Coord
  E = let D = begin_action l how parent above C in D.part

  here : SeesUp (view_of f c.x c.begun k) S s.disk s.parts
  here = here_of f c.x c.begun k s.disk (Some s.parts) S s.seen is_seen.sees

  at_home : u.node ≡ k
  at_home = let i = its c s is_seen in i.node

  -- nobody who was begun has it on the path
  off_path : (b : Action) → Contains c.begun b → is_on (uids_of b.path) u ≡ true → ⊥
  off_path b i on_it = let bad : false ≡ true = sym (begins.new b i) ∙ ap (is_on (uids_of b.path)) may.uid ∙ on_it in cc bad

  begun_apart : (b : Action) → Contains c.begun b → act_of b ≢ u
  begun_apart b i same = off_path b i (ap (is_on (uids_of b.path)) (sym same) ∙ on_own b.path)

  is_beginning : IsBeginning f.act f.paths how above C S
  is_beginning = record {
    steady = steady c s is_seen;
    stands = may;
    untouched = let z = is_seen.sees in let y = z.fresh in y.actions u begun_apart;
    unit = λ own. (
      let z = is_seen.sees in let y = z.fresh in y.units (root (f.act u)) (λ b i same_unit. off_path b i (first_there b i same_unit own)),
      empty,
    );
  }
    where
      -- whoever is of the root's unit has it on the path
      first_there : (b : Action) → Contains c.begun b → root (f.act (act_of b)) ≡ root (f.act u) → root_of a.path ≡ u →
          is_on (uids_of b.path) u ≡ true
      first_there b i same own =
          let g = is_seen.agrees in
          let w = g.whole in
          let firsts : first_uid (uids_of b.path) ≡ u = ap first_uid (sym (w.agree b i)) ∙ w.alike.units (act_of b) u same
          ∙ ap first_uid (sym may.path) ∙ own in
          first_on (uids_of b.path) (actor b.path) (on_own b.path) firsts
        where
          first_on : (us : List Uid) (v : Uid) → is_on us v ≡ true → first_uid us ≡ u → is_on us u ≡ true
          first_on [] v none is = absurd (let bad : false ≡ true = none in cc bad)
          first_on (w ∷ us) v some is = subst (λ (z : Uid). is_on (w ∷ us) z ≡ true) is (λ i. uid_same w i || is_on us w)

  home_new : (first_uid (f.paths u)).node ≡ k
  home_new = ⊎_elim
      (λ (own : root_of a.path ≡ u). ap (λ (us : List Uid). (first_uid us).node) (sym may.path) ∙ ap (λ (v : Uid). v.node) own ∙ at_home)
      (λ z. ap (λ (us : List Uid). (first_uid us).node) (sym may.path) ∙ ap (λ (v : Uid). v.node) z.root_is ∙ ap (λ (us : List Uid).
      (first_uid us).node) (let g = steady c s is_seen in g.good.tree.lists.paths_are z.w z.b z.there) ∙ here.home z.w z.b z.there)
      (place f.act f.code f.paths c.x l how parent above C S is_beginning here.coord.coord)

  up_more : SeesUp (view_of f c.x (a ∷ c.begun) k) S s.disk (with_coord s.parts E)
  up_more = record {
    server = here.server;
    coord = begins_are_taken f.act f.code f.paths c.x l how parent above C S is_beginning here.coord;
    naming = naming_more f c.x c.begun a S k (let t = s.parts in t.naming) here.naming;
    inc = here.inc;
    place = here.place;
    home = λ w q there. ⊎_elim (λ old. here.home w q old) (λ fresh. ap (λ (v : Uid). (first_uid (f.paths v)).node) fresh.0 ∙ home_new)
        (grown_cases how a.path C.tree w q there);
    past = past_more f c.x c.begun a S k C.tree E.tree (grown_still how a.path C.tree)
        (λ at. (new how a.path C.tree, ap (λ (v : Uid). branch_of v E.tree) may.uid ∙ new_there how a.path C.tree)) here.past;
    records = records_more f c.x c.begun a S k None (let d = s.disk in d.intents) here.records;
  }

  pub others_with : (e : ℕ) (M : Seen) → SeesOthers f c.x c.begun k S M → SeesOthers f c.x (a ∷ c.begun) k S M
  others_with e M z = others_more f c.x c.begun a S k e M (ap (λ (v : Uid). v.node) may.uid ∙ at_home) z

  -- the journal is tied with its line
  pub tied_more : (e : ℕ) → AreTied f c.x ((let M = s.seen in M.lines) ++ numbered e (began_line l how u parent ∷ [])) S
  tied_more e = tied_begins f c.x c.begun e l how u parent S (let M = s.seen in M.lines) (let w = is_seen.written in
      w.right) begun_apart is_beginning.untouched (tied_now c (world_at s) is_seen)

pub begins_go : BeginsGo
begins_go c s e l g how parent above is_seen begins may empty = λ agrees. (
  c.state,
  with_here c.fixed c.x (beginning how above (coord_at s) ∷ c.begun) s.node s.disk
      (Some (with_coord s.parts (let D = begin_action l how parent above (coord_at s) in D.part))) c.state
      (said e (began_line l how (next_uid (let q = coord_at s in q.tree)) parent ∷ []) (given l g s.seen))
      (others_with c s is_seen l how parent above begins may empty e
      (said e (began_line l how (next_uid (let q = coord_at s in q.tree)) parent ∷ []) (given l g s.seen))
      (said_others c.fixed c.x c.begun s.node e (began_line l how (next_uid (let q = coord_at s in q.tree)) parent ∷ []) c.state
      (given l g s.seen)
      (let z = others_of c.fixed c.x c.begun s.node s.disk (Some s.parts) c.state s.seen is_seen.sees in record {
        run = z.run;
        nodes = z.nodes;
        absent = z.absent;
        confirms = z.confirms;
        posts = z.posts;
        fresh = z.fresh;
        now = z.now;
      })))
      (up_more c s is_seen l how parent above begins may empty)
      (confirms_same c.fixed c.x s.node c.state (let M = s.seen in
      M.sent) s.disk s.disk s.parts (with_coord s.parts (let D = begin_action l how parent above (coord_at s) in D.part)) refl refl
      (confirms_of c.fixed c.x c.begun s.node s.disk (Some s.parts) c.state s.seen is_seen.sees)),
  tied_more c s is_seen l how parent above begins may empty e,
  stay,
)
