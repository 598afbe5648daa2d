-- What a tick sends again, walked through.
use Rattle.arj_law_parts.proofs.Words
use Words.{◌≡◌, ◌⊎◌, ℕ, zero, suc, ◌&&◌, List, [], ◌∷◌, ◌++◌, true, false, Some, None, refl, sym, ◌∙◌, ap, subst, inl, inr, ⊎_elim, map}
use Words.{slice_get, ⊤, if◌then◌else◌, AllByRecursion, append_assoc, Uid, End, Path, Ask, request, actor, top_of, again_all, again_now}
use Words.{asks_all, asks_node, Goal, At, AtBind, AtLoad, AtActivate, AtNote, AtInvoke, ask_at, next_ask, next_node, Used, Voting}
use Words.{Preparing, Confirming, vote_ask, confirm_ask, included_of, states_for, plan_of, waiting, Coord, Doing, Root, Now, Idle, Calling}
use Words.{Committing, doing_of, Disk, Effect, Intent, tell_all, tick_outs, Parts, with_coord, holders, query_about, at_uid, uid_number}
use Words.{tolds_again, ends_of, root_of, numbered, request_reads_back, Post, Seen}
use Words.ask
use Words.ending
use Words.message
use Words.commit
use Rattle.arj_law_disk_view.proofs.Terms
use Terms.{World, after, State, target, In, never, never_some, bool_cases, test_same, up, said, posted, Walks, Up, SeesPreparing}
use Terms.{SeesConfirming, KnowsCoord, IsPlanned, Kinds, ClaimsConfirm, SeesDisks, SeesCoord, SeesNotes, IsSettled, IsSeenByDisks}
use Terms.{KnowsRoot}
use Terms.machine
use Terms.mail
use Terms.disk
use Rattle.arj_law_disk_view.proofs.view
use view.{Asked.confirm_says, DecideWalks.confirming_of, FreeAsks.MayAsk, Notes.all_to, Planned.states_are_planned}
use view.Frames.{node_here, says_seen, posts_seen, sends_seen}
use view.HeardWalks.{asks_noted, asks_roots, roots_seen, preparing_of}
use view.ServedWalks.{HaveBegun, queries_walk, begun_on}
use Rattle.arj_law_disk_view.specs.view.{Coordinating.TicksAreWalked, Sees.ClaimsAsked}

-- ---- requests again

module _ (x k : ℕ) (tops : Kinds) (e : ℕ) (d : Disk) (t : Parts) (S : State) (v : Parts) (hs : List Uid) where
  abbrev P : Seen → Type 0
  P = IsSeenByDisks x tops

  -- what goes on behind, in any world with these disks, where these actions have begun
  abbrev pub Next : List Effect → Type 0
  Next rest = (N : Seen) (V : World) → V.disk ≡ S → HaveBegun N.lines hs → SeesDisks x tops V (up k d t N) → Walks P e k rest (Up P k v) d N

  -- the request may be sent, where the machine has sent its message
  record Asking (V : World) (N : Seen) (path : Path) (req : ℕ) (a : ℕ × Ask) : Type 0 where
    world : World
    same : world.disk ≡ S
    seen : SeesDisks x tops world (up k d t N)
    may : MayAsk x world path req a

  abbrev CanAsk : Path → ℕ → ℕ × Ask → Type 0
  CanAsk path req a = (N : Seen) (V : World) → V.disk ≡ S → SeesDisks x tops V (up k d t N) → Asking V N path req a

  free_ask : (path : Path) (req : ℕ) (a : ℕ × Ask) → ((V : World) → MayAsk x V path req a) → CanAsk path req a
  free_ask path req a may N V same s = record { world = V; same = same; seen = s; may = may V }

  asks_again : (path : Path) (req : ℕ) (asked : List (ℕ × Ask)) (c : Coord) (rest : List Effect) → AllByRecursion (CanAsk path req) asked →
      Next rest → Next ((asks_all path req asked c).outs ++ rest)
  asks_again path req [] c rest can go N V same hb s = go N V same hb s
  asks_again path req (a ∷ asked) c rest can go N V same hb s =
      let h : Asking V N path req a = can.0 N V same s in
      λ more quiet.
      let p : Post = record { from = k; to = a.0; message = request (record { path = path; req = req }) a.1 } in
      asks_again path req asked (asks_node path req a c).part rest can.1 go (said e more (posted p N)) h.world h.same
      (begun_on N.lines (numbered e more) hs hb)
      (says_seen x tops h.world (up k d t (posted p N)) (numbered e more) (posts_seen x tops h.world (up k d t N) p
      (subst (λ o. ClaimsAsked x tops h.world N.lines k a.0 (request (record { path = path; req = req }) a.1) o)
      (sym (request_reads_back (record { path = path; req = req }) a.1)) h.may) h.seen))

  -- a Prepare again
  prepare_again : (act : Uid) (p : commit.Plan) (left : List ℕ) (n : ℕ) → actor p.path ≡ act → SeesPreparing x S (uid_number act) p left →
      CanAsk p.path p.req (n, ask.Prepare (states_for n p))
  prepare_again act p left n mine prep N V same s = by (bool_cases (target (S.plan (uid_number act)) n))
    where
      planned : (U : World) → U.disk ≡ S → IsPlanned x U.disk (actor p.path) n (states_for n p)
      planned U is = subst (λ D. IsPlanned x D (actor p.path) n (states_for n p)) (sym is)
          (subst (λ w. IsPlanned x S w n (states_for n p)) (sym mine) (states_are_planned x n S act p prep.tidy prep.begun prep.plan))

      by : (target (S.plan (uid_number act)) n ≡ true) ⊎ (target (S.plan (uid_number act)) n ≡ false) →
          Asking V N p.path p.req (n, ask.Prepare (states_for n p))
      by (inr off) = record {
        world = V;
        same = same;
        seen = s;
        may = record {
          planned = planned V same;
          asked = λ on. absurd (never (subst (λ w. target (S.plan (uid_number w)) n ≡ true) mine
              (ap (λ (D : State). target (D.plan (uid_number (actor p.path))) n) (sym same) ∙ on)) off);
        };
      }
      by (inl on) =
          let m : mail.Message = mail.Prepare (uid_number act) n in
          record {
            world = after V (machine.Send m);
            same = same;
            seen = sends_seen x tops V (up k d t N) m (
              ap (λ (D : State). D.begun (uid_number act)) same ∙ prep.begun,
              ap (λ (D : State). target (D.plan (uid_number act)) n) same ∙ on,
            ) refl s;
            may = record {
              planned = planned (after V (machine.Send m)) same;
              asked = λ also. subst (λ w.
                  In (mail.Prepare (uid_number w) n) (after V (machine.Send (mail.Prepare (uid_number act) n))).sent) (sym mine) (inl refl);
            };
          }

  -- a Confirm again
  confirm_again : (act : Uid) (p : commit.Plan) → top_of p.path ≡ act → actor p.path ≡ act → SeesConfirming x S (uid_number act) p →
      CanAsk p.path p.req (1, confirm_ask p)
  confirm_again act p mine own conf N V same s =
      let m : mail.Message = mail.Confirm (uid_number act) in
      let now : SeesConfirming x V.disk (uid_number act) p = subst (λ D. SeesConfirming x D (uid_number act) p) (sym same) conf in
      record {
        world = after V (machine.Send m);
        same = same;
        seen = sends_seen x tops V (up k d t N) m now.stage refl s;
        may = (
          own ∙ sym mine,
          subst (λ w. ClaimsConfirm x (after V (machine.Send (mail.Confirm (uid_number act)))) (uid_number w)
              (map {A = Used} {B = ℕ × ℕ} (λ u. (u.x, u.grant)) p.used) p.excluded (included_of p)) (sym mine)
              (record { asked = inl refl; says = confirm_says x V.disk (uid_number act) p now }),
        );
      }

  -- what is known of an action at work
  abbrev AtWork : Now → Type 0
  AtWork (Committing (Preparing p left)) = (act : Uid) × (actor p.path ≡ act) × SeesPreparing x S (uid_number act) p left
  AtWork (Committing (Confirming p)) = (act : Uid) × (top_of p.path ≡ act) × (actor p.path ≡ act) × SeesConfirming x S (uid_number act) p
  AtWork _ = ⊤

  votes_can : (p : commit.Plan) (ss : List ℕ) → AllByRecursion (CanAsk p.path p.req) (map {A = ℕ} {B = ℕ × Ask} (λ n. (n, vote_ask p n)) ss)
  votes_can p [] = tt
  votes_can p (n ∷ ss) = (free_ask p.path p.req (n, vote_ask p n) (λ V. tt), votes_can p ss)

  prepares_can : (act : Uid) (p : commit.Plan) (left ss : List ℕ) → actor p.path ≡ act → SeesPreparing x S (uid_number act) p left →
      AllByRecursion (CanAsk p.path p.req) (map {A = ℕ} {B = ℕ × Ask} (λ n. (n, ask.Prepare (states_for n p))) ss)
  prepares_can act p left [] mine prep = tt
  prepares_can act p left (n ∷ ss) mine prep = (prepare_again act p left n mine prep, prepares_can act p left ss mine prep)

  call_free : (path : Path) (req n y : ℕ) (g : Goal) (ends : List (Uid × End)) (at : At) (V : World) →
      MayAsk x V path req (n, ask_at y g ends at)
  call_free path req n y g ends (AtBind avoid) V = tt
  call_free path req n y g ends (AtLoad known s rest) V = tt
  call_free path req n y g ends (AtActivate known st) V = tt
  call_free path req n y g ends (AtNote known i) V = tt
  call_free path req n y g ends (AtInvoke known i) V = tt

  now_again : (now : Now) (c : Coord) (rest : List Effect) → AtWork now → Next rest → Next ((again_now c now).outs ++ rest)
  now_again Idle c rest at go = go
  now_again (Calling s) c rest at go = asks_again s.path s.req ((next_node s, next_ask (ends_of (root_of s.path) c.tree) s) ∷ []) c rest (
    free_ask s.path s.req (next_node s, next_ask (ends_of (root_of s.path) c.tree) s)
        (call_free s.path s.req (next_node s) s.x s.goal (ends_of (root_of s.path) c.tree) s.at),
    tt,
  ) go
  now_again (Committing (Voting p left)) c rest at go = asks_again p.path p.req (waiting (Voting p left)) c rest (votes_can p left) go
  now_again (Committing (Preparing p left)) c rest at go =
      asks_again p.path p.req (waiting (Preparing p left)) c rest (prepares_can at.0 p left left at.1 at.2) go
  now_again (Committing (Confirming p)) c rest at go =
      asks_again p.path p.req (waiting (Confirming p)) c rest (confirm_again at.0 p at.1 at.2 at.3, tt) go

  all_again : (ds : List Doing) (c : Coord) (rest : List Effect) → AllByRecursion (λ (r : Doing). AtWork r.now) ds → Next rest →
      Next ((again_all ds c).outs ++ rest)
  all_again [] c rest at go = go
  all_again (r ∷ ds) c rest at go =
      subst Next (sym (append_assoc (again_now c r.now).outs (again_all ds (again_now c r.now).part).outs rest))
      (now_again r.now c ((again_all ds (again_now c r.now).part).outs ++ rest) at.0 (all_again ds (again_now c r.now).part rest at.1 go))

  -- ---- tolds again

  tolds_of_one : (u root : Uid) (ns : List ℕ) (rest : List Effect) → disk.decided S (uid_number u) ≡ true → Next rest →
      Next (tell_all root true ((u, ending.Commit) ∷ []) ns ++ rest)
  tolds_of_one u root [] rest done go N V same hb s = go N V same hb s
  tolds_of_one u root (n ∷ ns) rest done go N V same hb s = λ more quiet.
      let m : mail.Message = mail.ToldCommit (uid_number u) n in
      let p : Post =
      record { from = k; to = n; message = message.Told (record { root = root; ack = true; ends = (u, ending.Commit) ∷ [] }) } in
      tolds_of_one u root ns rest done go (said e more (posted p N)) (after V (machine.Send m)) same
      (begun_on N.lines (numbered e more) hs hb)
      (says_seen x tops (after V (machine.Send m)) (up k d t (posted p N)) (numbered e more)
      (posts_seen x tops (after V (machine.Send m)) (up k d t N) p (inl (inl (inl refl)), λ a. inl refl)
      (sends_seen x tops V (up k d t N) m (ap (λ D. disk.decided D (uid_number u)) same ∙ done) refl s)))

  pub tolds_walk_again : (telling : List (Uid × Intent)) (rest : List Effect) →
      AllByRecursion (λ (z : Uid × Intent). disk.decided S (uid_number z.0) ≡ true) telling → Next rest → Next (tolds_again telling ++ rest)
  tolds_walk_again [] rest done go = go
  tolds_walk_again (z ∷ zs) rest done go = subst Next (sym (append_assoc (tell_all (let i = z.1 in
      i.root) true ((z.0, ending.Commit) ∷ []) (let i = z.1 in i.nodes)) (tolds_again zs) rest)) (tolds_of_one z.0 (let i = z.1 in
      i.root) (let i = z.1 in i.nodes) (tolds_again zs ++ rest) done.0 (tolds_walk_again zs rest done.1 go))

-- ---- the coordinator takes note at its roots

now_roots : (now : Now) (c : Coord) → (again_now c now).part ≡ record c { roots = (again_now c now).part.roots }
now_roots Idle c = refl
now_roots (Calling s) c = refl
now_roots (Committing m) c = asks_roots (plan_of m).path (plan_of m).req (waiting m) c

again_roots : (ds : List Doing) (c : Coord) → (again_all ds c).part ≡ record c { roots = (again_all ds c).part.roots }
again_roots [] c = refl
again_roots (r ∷ ds) c = again_roots ds (again_now c r.now).part
    ∙ ap (λ (b : Coord). record b { roots = (again_all ds (again_now c r.now).part).part.roots }) (now_roots r.now c)

now_noted : (x : ℕ) (W : World) (now : Now) (c : Coord) → AllByRecursion (λ (r : ℕ × Root). KnowsRoot x W r.1) c.roots →
    AllByRecursion (λ (r : ℕ × Root). KnowsRoot x W r.1) (again_now c now).part.roots
now_noted x W Idle c all = all
now_noted x W (Calling s) c all = asks_noted x W s.path s.req ((next_node s, next_ask (ends_of (root_of s.path) c.tree) s) ∷ []) c all
now_noted x W (Committing m) c all = asks_noted x W (plan_of m).path (plan_of m).req (waiting m) c all

again_noted : (x : ℕ) (W : World) (ds : List Doing) (c : Coord) → AllByRecursion (λ (r : ℕ × Root). KnowsRoot x W r.1) c.roots →
    AllByRecursion (λ (r : ℕ × Root). KnowsRoot x W r.1) (again_all ds c).part.roots
again_noted x W [] c all = all
again_noted x W (r ∷ ds) c all = again_noted x W ds (again_now c r.now).part (now_noted x W r.now c all)

-- ---- the tick

module _ (x : ℕ) (tops : Kinds) (e k : ℕ) (d : Disk) (t : Parts) (M : Seen) (knows : KnowsCoord tops d.intents t.coord)
    (begun : HaveBegun M.lines (holders d t)) (W : World) (sees : SeesDisks x tops W (up k d t M)) where
  mine : SeesCoord x k d.inc tops t.coord W.disk
  mine =
      sees.coords k (record { number = k; disk = d; live = Some t }) t (node_here M k (record { number = k; disk = d; live = Some t })) refl

  notes : SeesNotes x d.intents t.coord W
  notes =
      sees.notes k (record { number = k; disk = d; live = Some t }) t (node_here M k (record { number = k; disk = d; live = Some t })) refl

  abbrev own : ℕ → Uid
  own j = record { node = t.coord.tree.node; inc = t.coord.tree.inc; num = suc j }

  at_place_of : (j : ℕ) (r : Doing) → slice_get t.coord.doings j ≡ Some r → doing_of (own j) t.coord ≡ Some r
  at_place_of j r is =
      ap (λ c. if c then slice_get t.coord.doings j else None) (λ i. test_same t.coord.tree.node i && test_same t.coord.tree.inc i) ∙ is

  at_work : (u : Uid) (r : Doing) → doing_of u t.coord ≡ Some r → (now : Now) → r.now ≡ now →
      AtWork x k tops e d t W.disk (with_coord t (again_all t.coord.doings t.coord).part) (holders d t) now
  at_work u r does Idle is = tt
  at_work u r does (Calling s) is = tt
  at_work u r does (Committing (Voting p left)) is = tt
  at_work u r does (Committing (Preparing p left)) is =
      let h = knows.machines u r (Preparing p left) does is in (
        u,
        h.plan.actor_is,
        preparing_of x tops W.disk (uid_number u) h.branch.kind r.now p left h.top is (mine.working u h.branch r h.found h.unended does),
      )
  at_work u r does (Committing (Confirming p)) is =
      let h = knows.machines u r (Confirming p) does is in (
        u,
        h.plan.top_is,
        h.plan.actor_is,
        confirming_of x tops W.disk (uid_number u) h.branch.kind r.now p h.top is (mine.working u h.branch r h.found h.unended does),
      )

  all_places : {A : Type 0} (Q : A → Type 0) (xs : List A) → ((j : ℕ) (a : A) → slice_get xs j ≡ Some a → Q a) → AllByRecursion Q xs
  all_places Q [] each = tt
  all_places Q (a ∷ more) each = (each zero a refl, all_places Q more (λ j b is. each (suc j) b is))

  told_done : (z : Uid × Intent) → (i : Intent) × (at_uid z.0 d.intents ≡ Some i) → disk.decided W.disk (uid_number z.0) ≡ true
  told_done z i = ⊎_elim (λ o. absurd (never_some i.1 (knows.unrecorded z.0 o))) (λ (h : IsSettled z.0 i.0 t.coord.telling W). h.done)
      (notes.settled z.0 i.0 i.1)

  pub tick_walks : Walks (IsSeenByDisks x tops) e k (tick_outs (record { number = k; disk = d; live = Some t }) t)
      (Up (IsSeenByDisks x tops) k (with_coord t (again_all t.coord.doings t.coord).part)) d M
  tick_walks =
      let v : Parts = with_coord t (again_all t.coord.doings t.coord).part in
      let qs : List Effect = map query_about (holders d t) in
      subst (λ es. Walks (IsSeenByDisks x tops) e k es (Up (IsSeenByDisks x tops) k v) d M)
      (sym (append_assoc (again_all t.coord.doings t.coord).outs (tolds_again t.coord.telling) qs))
      (all_again x k tops e d t W.disk v (holders d t) t.coord.doings t.coord (tolds_again t.coord.telling ++ qs)
      (all_places (λ (r : Doing). AtWork x k tops e d t W.disk v (holders d t) r.now) t.coord.doings
      (λ j r is. at_work (own j) r (at_place_of j r is) r.now refl))
      (tolds_walk_again x k tops e d t W.disk v (holders d t) t.coord.telling qs
      (all_to (λ (z : Uid × Intent). (i : Intent) × (at_uid z.0 d.intents ≡ Some i))
      (λ (z : Uid × Intent). disk.decided W.disk (uid_number z.0) ≡ true) told_done t.coord.telling knows.telling_there)
      (λ N V same hb s. queries_walk x k tops e d v V (holders d t) N hb (noted V N s)))
      M W refl begun sees)
    where
      noted : (V : World) (N : Seen) → SeesDisks x tops V (up k d t N) →
          SeesDisks x tops V (up k d (with_coord t (again_all t.coord.doings t.coord).part) N)
      noted V N s =
          subst (λ (c : Coord). SeesDisks x tops V (up k d (with_coord t c) N)) (sym (again_roots t.coord.doings t.coord)) (roots_seen x k
          tops V N d t t.coord (again_all t.coord.doings t.coord).part.roots (λ n. again_noted x V t.coord.doings t.coord n.roots) s)

pub ticks_are_walked : TicksAreWalked
ticks_are_walked x tops e k d t M knows begun W sees = tick_walks x tops e k d t M knows begun W sees
