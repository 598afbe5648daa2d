-- A coordinator goes on without deciding a top that asked a store: what holds of outcomes goes on.
use Rattle.arj_law_parts.proofs.Words
use Words.{◌≡◌, ◌⊎◌, ◌∙◌, ◌++◌, ◌==◌, eqb-true, ℕ, Bool, true, false, cond, List, [], ◌∷◌, Option, Some, None, refl, sym, ap, subst, inl}
use Words.{inr, ⊎_elim, ⊤, AllByRecursion, in_to, Asked, Body, Head, Line, Message, ObjectState, Uid, asks, Reply, actor, answers, last_end}
use Words.{Machine, Plan, Preparing, Committing, Coord, Doing, doing_of, Disk, Do, Effect, Say, Send, is_prepared, Parts, at_uid, has, Node}
use Words.{Branch, ends_of, is_own, Post, Seen}
use Words.ask
use Words.body
use Words.ending
use Words.message
use Words.prepared
use Rattle.arj_law_promise.proofs.Terms
use Terms.{Act, is_of_coord, IsCommitting, told_by, IsDecided, at, posted, said, up, Up, Walks, walks_both, no_answer, is_awaited_by, book}
use Terms.{is_decided, new_book, uid_in, AreRight, found_by, IsKnown, AreAt, some_is}
use Rattle.arj_law_promise.proofs.settling
use settling.{Yeses.AskedFrom, Yeses.SaidYes, Yeses.Votes}
use settling.Calms.{AllCalm, PreparesNow, SaysNow, TellsNow}
use settling.Cores.{HasMarks, IsAcked, IsAsked, IsCore, IsHeld, IsWatched, Lists}
use settling.Knowns.{Known, asked_settled, commit_called, committing, ended_closed, ended_so, itself, knows, node_is, open_undone, own_node}
use settling.Knowns.{record_committed, sure, top_kind}
use settling.Milds.{here_is, later, lists_back, lists_on, mild_core, recorded_back, the_node, votes_sent}
use settling.Trails.{Down, FitsSo, HasLine, LineMild, SaysIn, UpBy, Went, mild_clean, mild_decides, quiet_mild, said_lines, went}
use Rattle.std.specs.Option.{option_map}

-- what is known, and what holds
abbrev pub IsRight : Seen → Type 0
IsRight M = Known M × IsCore M

-- it says no Yes, and acknowledges nothing
abbrev pub IsNoAnswer : Message → Type 0
IsNoAnswer m =
    ((a : Asked) → answers m ≡ Some (a, Reply.Prepared prepared.Yes) → ⊥) × ((u : Uid) → m ≡ message.Acked (record { act = u }) → ⊥)

-- nothing else does a coordinator say
pub coord_plain : (m : Message) → is_of_coord m ≡ true → IsNoAnswer m
coord_plain m own = (
  (λ a is. let no_way : ◌≡◌ {A = Option (Asked × Reply)} None (Some (a, Reply.Prepared prepared.Yes)) = sym (no_answer m own) ∙ is in
      cc no_way),
  (λ u is. cc (sym (ap is_of_coord is) ∙ own)),
)

-- what a coordinator sends
abbrev pub SendsSo : (Uid → Type 0) → Coord → Post → Type 0
SendsSo U e p = (((h : Head) (states : List ObjectState) → asks p.message ≡ Some (h, ask.Prepare states) → PreparesNow e p.to h states)
    × ((u : Uid) → last_end (told_by p.message) ≡ Some (u, ending.Abort) → TellsNow U e u)) × IsNoAnswer p.message

-- each of its messages is a request, or tells ends
abbrev pub IsPlainSend : Effect → Type 0
IsPlainSend (Send to m) = IsNoAnswer m
IsPlainSend (Say b) = ⊤
IsPlainSend (Do w) = ⊤

-- without work no stop falls
abbrev pub HasNoWork : Effect → Type 0
HasNoWork (Do w) = ⊥
HasNoWork f = ⊤

pub no_stops : (P Q : Seen → Type 0) {f g : Disk → Seen → Type 0} (e k : ℕ) (outs : List Effect) → AllByRecursion HasNoWork outs →
    (d : Disk) (M : Seen) → ((c : Disk) (N : Seen) → f c N → g c N) → Walks P e k outs f d M → Walks Q e k outs g d M
no_stops P Q e k [] none d M to w = to d M w
no_stops P Q e k (Say b ∷ es) none d M to w = no_stops P Q e k es none.1 d (said e (b ∷ []) M) to w
no_stops P Q e k (Send n m ∷ es) none d M to w =
    λ more q. no_stops P Q e k es none.1 d (said e more (posted (record { from = k; to = n; message = m }) M)) to (w more q)
no_stops P Q e k (Do w ∷ es) none d M to walk = absurd none.0

pub no_work : (U : Uid → Type 0) (c e : Coord) (outs : List Effect) → AllCalm U c e outs → AllByRecursion HasNoWork outs
no_work U c e [] calm = tt
no_work U c e (Say b ∷ es) calm = (tt, no_work U c e es calm.1)
no_work U c e (Send n m ∷ es) calm = (tt, no_work U c e es calm.1)
no_work U c e (Do w ∷ es) calm = absurd calm.0

-- a coordinator's line that commits is about one of these
module _ (U : Uid → Type 0) (k : ℕ) (d : Disk) (t : Parts) (M : Seen) (known : Known (up k d t M)) where
  pub line_fits : (b : Body) → SaysNow U t.coord b → LineMild U (let B = book M.lines in B.acts) b
  line_fits (body.Committed l) (u, b, q, found, does, label, its) = λ x is. subst U (one x is) its
    where
      one : (x : Uid) → uid_in (let B = book M.lines in B.acts) l ≡ Some x → u ≡ x
      one x is =
          let g = knows (up k d t M) known k (the_node k d (Some t)) t (here_is k d (Some t) M) refl in
          let q2 = g.knows in
          let s : IsKnown (book M.lines) u b.kind b.ended q.label = q2.acts u b q found does in
          some_is (sym (ap (λ o. option_map (λ (y : Act). y.uid) o) s.named ∙ ap Some s.uid)
          ∙ ap (uid_in (let B = book M.lines in B.acts)) label ∙ is)
  line_fits (body.Began l h u p) so = absurd so
  line_fits (body.Recovered n u) so = absurd so
  line_fits (body.Done n u r e) so = absurd so
  line_fits (body.Committing l) so = tt
  line_fits (body.Aborted l c) so = tt
  line_fits (body.Ended l) so = tt
  line_fits (body.Ok l x o r) so = tt
  line_fits (body.Includes l x n) so = tt
  line_fits b so = tt

module _ (k : ℕ) (d : Disk) (t : Parts) (M : Seen) (right : IsRight (up k d t M)) where
  abbrev Start : Seen
  Start = up k d t M

  abbrev its : Node
  its = the_node k d (Some t)

  here : Start.nodes k ≡ Some (the_node k d (Some t))
  here = here_is k d (Some t) M

  -- no store was asked for the action
  abbrev pub Unasked : Uid → Type 0
  Unasked u = (n : ℕ) → IsAsked (up k d t M) u n → ⊥

  -- this node's disk stays as it is
  abbrev pub Same : Disk → Type 0
  Same c = c ≡ d

  abbrev Mild : Body → Type 0
  Mild = LineMild Unasked (let B = book M.lines in B.acts)

  module _ (v : Parts) where
    abbrev pub Sends : Post → Type 0
    Sends = SendsSo Unasked v.coord

    abbrev pub IsUp : Disk → Option Parts → Type 0
    IsUp = UpBy k M Mild Sends (quiet_mild Unasked (let B = book M.lines in B.acts)) tt Same v

    abbrev IsDown : Disk → Option Parts → Type 0
    IsDown = Down k M Mild Sends (quiet_mild Unasked (let B = book M.lines in B.acts)) tt Same

    effects_fit : (outs : List Effect) → AllCalm Unasked t.coord v.coord outs → AllByRecursion IsPlainSend outs →
        AllByRecursion (FitsSo k M (LineMild Unasked (let B = book M.lines in B.acts)) (SendsSo Unasked v.coord)
        (quiet_mild Unasked (let B = book M.lines in B.acts)) tt Same) outs
    effects_fit [] calm plain = tt
    effects_fit (Say b ∷ es) calm plain = (line_fits Unasked k d t M right.0 b calm.0, effects_fit es calm.1 plain.1)
    effects_fit (Send to m ∷ es) calm plain = ((calm.0, plain.0), effects_fit es calm.1 plain.1)
    effects_fit (Do w ∷ es) calm plain = absurd calm.0

    module _ (own_same : (u : Uid) → is_own u v.coord.tree ≡ is_own u t.coord.tree) (telling : v.coord.telling ≡ t.coord.telling)
        (votes : AreAt (Votes k M.sent) v.coord) where
      module _ (c : Disk) (N : Seen) (known : Known (up k c v N)) (w : Went k M Mild Sends IsUp (up k c v N))
          (marks : AreAt (HasMarks N.lines) v.coord) where
        abbrev Late : Seen
        Late = up k c v N

        disk_is : w.disk ≡ d
        disk_is = w.fits.0

        end_here : Late.nodes k ≡ Some (the_node k c (Some v))
        end_here = here_is k c (Some v) N

        its_node : the_node k w.disk w.live ≡ the_node k c (Some v)
        its_node = some_is (sym w.here ∙ end_here)

        records_same : c.intents ≡ d.intents
        records_same = ap (λ (z : Node). let q = z.disk in q.intents) (sym its_node) ∙ ap (λ (z : Disk). z.intents) disk_is

        -- who asks is at its commit
        asking : (p : Post) → SendsSo Unasked v.coord p → (h : Head) (states : List ObjectState) →
            asks p.message ≡ Some (h, ask.Prepare states) → IsCommitting (actor h.path) v.coord
        asking p so h states is = let a = so.0.0 h states is in (a.doing, Preparing a.plan a.left, a.works, a.now)

        -- who was aborted has no record
        no_record : (u : Uid) (n : ℕ) → IsDecided u ending.Abort v.coord.tree → Lists Start u n → ⊥
        no_record u n (b, found, aborted) (a, i, is, at, on) =
            let home = node_is Late known k (the_node k c (Some v)) v end_here refl u b found in
            let same : a ≡ the_node k d (Some t) = some_is (sym is ∙ ap Start.nodes home ∙ here) in
            let r = record_committed Late known k (the_node k c (Some v)) v end_here refl u i (ap (at_uid u) records_same ∙ subst
            (λ (z : Node). at_uid u (let q = z.disk in q.intents) ≡ Some i) same at) (let f = found_by u v.coord.tree b found in f.0) in
            let one : r.0 ≡ b = some_is (sym r.1 ∙ found) in
            absurd (cc (sym r.2 ∙ ap (λ (z : Branch). z.ended) one ∙ aborted))

        asked_on : (u : Uid) (n : ℕ) → IsAsked Start u n → IsAsked Late u n
        asked_on u n (p, i, from, to, h, states, is, act) = (p, w.on p i, from, to, h, states, is, act)

        telling_none : (u : Uid) (n : ℕ) → TellsNow Unasked v.coord u → IsAsked Start u n → Lists Start u n → ⊥
        telling_none u n (inl unasked) asked lists = unasked n asked
        telling_none u n (inr (inl decided)) asked lists = no_record u n decided lists
        telling_none u n (inr (inr (inl (r, i)))) asked lists = let s = sure Late known k (the_node k c (Some v)) v end_here refl in
            no_record u n (s.lists r u ending.Abort (in_to (u, ending.Abort) (ends_of r v.coord.tree) i)) lists
        telling_none u n (inr (inr (inr (b, found, serial)))) asked lists = top_kind Late known k (the_node k c (Some v)) v end_here refl u
            b found (let a = itself Late known u.node u n (asked_on u n asked) in a.0) serial

        -- who is at its commit now, and was asked before, was so
        was_committing : (u : Uid) (n : ℕ) → u.node ≡ k → IsCommitting u v.coord → IsAsked Start u n → IsCommitting u t.coord
        was_committing u n home at asked = ⊎_elim
            (λ over. absurd (let b = committing Late known k (the_node k c (Some v)) v end_here refl u at in
            let top = (let a = itself Start right.0 u.node u n asked in a.0) in
            let on = ended_so Start right.0 k (the_node k d (Some t)) t here refl u over.0 over.1 over.2
            (top_kind Start right.0 k (the_node k d (Some t)) t here refl u over.0 over.1 top) in
            let l = later k d (Some t) M Mild Sends IsUp Late w in
            ended_closed Late known k (the_node k c (Some v)) v end_here refl u
            (⊎_elim (λ x. inl (l.committed u x)) (λ x. inr (l.aborted u x)) on) b.0 b.1 b.2))
            (λ was. was)
            (asked_settled Start right.0 k (the_node k d (Some t)) t here refl u n (subst (λ j. AskedFrom j M.sent u n) home asked) (sym
            (own_same u) ∙ own_node Late known k (the_node k c (Some v)) v end_here refl u (let z = at in z.0) (let z = at in z.2)))

        no_yes : (u : Uid) (n : ℕ) → SaidYes N.sent n u → SaidYes M.sent n u
        no_yes u n (p, i, from, a, is, act) =
            ⊎_elim (λ old. (p, old, from, a, is, act)) (λ new. absurd (let z = new.1 in let y = z.1 in y.0 a is)) (w.back p i)

        held_on : (n : ℕ) (u : Uid) → IsHeld Start n u → IsHeld Late n u
        held_on n u (a, is, on) = by (n == k) refl
          where
            by : (b : Bool) → (n == k) ≡ b → IsHeld Late n u
            by true same =
                let e = eqb-true n k same in
                let one : a ≡ the_node k d (Some t) = some_is (sym is ∙ ap Start.nodes e ∙ here) in (
                  the_node k c (Some v),
                  ap Late.nodes e ∙ end_here,
                  ap (λ (z : Node). let q = z.disk in is_prepared u q.store) (sym its_node) ∙ ap (λ (z : Disk). is_prepared u z.store)
                      disk_is ∙ ap (λ (z : Node). let q = z.disk in is_prepared u q.store) (sym one) ∙ on,
                )
            by false other = (a, w.others n other ∙ sym (λ i. cond (other i) (Some (the_node k d (Some t))) (M.nodes n)) ∙ is, on)

        pub watched : IsWatched Late k (the_node k c (Some v)) v
        watched = record {
          marked = marks;
          held = λ u n home at said. let old = no_yes u n said in let core = right.1 in let before = core.coords k (the_node k d (Some t)) t
              here refl in held_on n u (before.held u n home (was_committing u n home at (core.yeses u n old)) old);
          votes =
              λ u q m found now. votes_sent k M.sent N.sent w.on u m (λ n asked. new_asked u q m found now n asked) (votes u q m found now);
          telling = λ u i n at on. let core = right.1 in let before = core.coords k (the_node k d (Some t)) t here refl in
              ⊎_elim (λ waits. inl (ap (λ ts. is_awaited_by n (at_uid u ts)) telling ∙ waits)) (λ acked. inr (acked_on u n acked))
              (before.telling u i n (ap (at_uid u) (sym records_same) ∙ at) on);
        }
          where
            acked_on : (u : Uid) (n : ℕ) → IsAcked M.sent n u → IsAcked N.sent n u
            acked_on u n (p, i, from, is) = (p, w.on p i, from, is)

            new_asked : (u : Uid) (q : Doing) (m : Machine) → doing_of u v.coord ≡ Some q → q.now ≡ Committing m → (n : ℕ) → AskedFrom k
                N.sent u n → AskedFrom k M.sent u n ⊎ ((p : Plan) × (left : List ℕ) × (m ≡ Preparing p left) × (has left n ≡ true))
            new_asked u q m found now n (p, i, from, to, h, states, is, act) = ⊎_elim (λ old. inl (p, old, from, to, h, states, is, act))
                (λ new. let a = (let z = new.1 in z.0.0 h states is) in
                let same : q ≡ a.doing = some_is (sym found ∙ ap (λ x. doing_of x v.coord) (sym act) ∙ a.works) in
                inr (
                  a.plan,
                  a.left,
                  machine_is (sym now ∙ ap (λ (z : Doing). z.now) same ∙ a.now),
                  ap (λ z. has a.left z) (sym to) ∙ a.there,
                )) (w.back p i)
              where
                machine_is : {x y : Machine} → Committing x ≡ Committing y → x ≡ y
                machine_is e = cc e

        still_core : IsCore (up k c v N)
        still_core = mild_core k d (Some t) M Unasked Mild Sends IsUp Late w right.1 (record {
          decides = λ u on. mild_decides Unasked M.lines w.more w.said_so u (subst (λ ls. is_decided (book ls) u ≡ true) w.lines on);
          clean = λ before line behind n u is says decided.
              absurd (mild_clean Unasked (let B = book M.lines in B.acts) w.more before line behind n u w.said_so is says);
          recorded = λ u r. inl (recorded_back k d (Some t) M Mild Sends IsUp Late w (ap (λ (z : Disk). z.intents) disk_is) u r);
          done = λ u n un asked. absurd (un n asked);
          lists = λ u n l asked. inl (lists_on k d (Some t) M Mild Sends IsUp Late w (ap (λ (z : Disk). z.intents) disk_is) u n l);
          back = λ u n tells asked l. lists_back k d (Some t) M Mild Sends IsUp Late w (ap (λ (z : Disk). z.intents) disk_is) u n l;
          keeps = λ u on. inl (ap (λ (z : Disk). is_prepared u z.store) disk_is ∙ on);
          new = λ u on. inl (ap (λ (z : Disk). is_prepared u z.store) (sym disk_is) ∙ on);
          asks = λ p so h states is. let at = asking p so h states is in
              let b = committing Late known k (the_node k c (Some v)) v end_here refl (actor h.path) at in (
                open_undone Late known k (the_node k c (Some v)) v end_here refl (actor h.path) b.0 b.1 b.2,
                commit_called Late known k (the_node k c (Some v)) v end_here refl (actor h.path) at,
              );
          tells = λ p so u last asked lists. telling_none u p.to (let z = so.0 in
              z.1 u last) asked (lists_back k d (Some t) M Mild Sends IsUp Late w (ap (λ (z : Disk). z.intents) disk_is) u p.to lists);
          yeses = λ p so a is. absurd (let y = so.1 in y.0 a is);
          acks = λ p so u is. absurd (let y = so.1 in y.1 u is);
          here = λ x up_it. subst (λ z. IsWatched Late k z x) (sym its_node)
              (subst (IsWatched Late k (the_node k c (Some v))) (some_is (sym (ap (λ (z : Node). z.live) its_node) ∙ up_it)) watched);
        })

      -- and so along its effects
      pub still_walk : (e : ℕ) (outs : List Effect) → AllCalm Unasked t.coord v.coord outs → AllByRecursion IsPlainSend outs
          → ((lines more : List Line) → lines ≡ M.lines ++ more → ((b : Body) → SaysIn b outs → HasLine M.lines lines b) →
          AreRight new_book lines → AreAt (HasMarks lines) v.coord)
          → Walks Known e k outs (Up Known k v) d M → Walks IsRight e k outs (Up IsRight k v) d M
      still_walk e outs calm plain marks known =
          let two = walks_both (Went k M Mild Sends IsDown) (λ N. ⊤) e k outs (λ c N. Went k M Mild Sends IsUp (up k c v N))
          (λ c N. (b : Body) → SaysIn b outs → HasLine M.lines N.lines b) d M
          (went k M Mild Sends (quiet_mild Unasked (let B = book M.lines in B.acts)) tt Same e v outs d (effects_fit outs calm plain) refl)
          (said_lines k e v outs d M) in
          let three = walks_both Known (λ N. Went k M Mild Sends IsDown N × ⊤) e k outs (Up Known k v)
          (λ c N. Went k M Mild Sends IsUp (up k c v N) × ((b : Body) → SaysIn b outs → HasLine M.lines N.lines b)) d M known two in
          no_stops (λ N. Known N × (Went k M Mild Sends IsDown N × ⊤)) IsRight e k outs (no_work Unasked t.coord v.coord outs calm) d M
          (λ c N h. (
            h.0,
            still_core c N h.0 h.1.0
                (marks N.lines (let w = h.1.0 in w.more) (let w = h.1.0 in w.lines) h.1.1 (let w = h.0.0.0.0 in let z = w.1 in z.right)),
          )) three
