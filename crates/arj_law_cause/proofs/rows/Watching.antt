-- What stores have prepared may be pending by the journal, as a node does its effects one by one, where so much of what comes is known:
-- at a stop between a work Prepare and its line, that the node was asked for that.
use Rattle.arj_law_parts.proofs.Words
use Words.{⊤, ◌≡◌, ◌⊎◌, ◌∙◌, ◌==◌, ◌&&◌, ◌||◌, ◌++◌, ◌+◌, ℕ, Bool, true, false, cond, if◌then◌else◌, List, [], ◌∷◌, Option, Some, None}
use Words.{refl, sym, ap, subst, inl, inr, ⊎_elim, is_some, uid_same, uid_cases, at_uid, put_uid, without_uid, uid_eq, uid_is}
use Words.{Ask, Head, Header, Body, End, Line, Message, ObjectState, Uid, asks, actor, Abort, Commit, Disk, Do, Effect, Look, Prepare}
use Words.{PutInc}
use Words.{PutIntent, RemoveIntent, Say, Send, Work, Stop, After, Before, InPart, is_prepared, Parts, Took, handle, is_meant, worked}
use Words.{stopped}
use Words.{numbered, Node, Seen, Post, is_serial, with_coord, again_all, begin_action, parent_of, parts_in, restart_outs, tick_outs}
use Words.{frame_kind}
use Words.{acts as does, acts_own, and_parts, list_all}
use Rattle.arj_protocol.specs.Words.{FrameKind}
use Words.ask
use Words.body
use Words.ending
use Words.frame
use Words.input
use Words.role
use Rattle.arj_law_lock_view.proofs.facts.Homes.{home_keep}
use Rattle.arj_law_lock_view.specs.facts.Homes.{RequestsAreHome}
use Rattle.arj_law_parts.proofs.Terms as objects
use Rattle.arj_law_parts.proofs.moves.{Flat.post, Happens.Wide, Happens.wide_steps}
use Rattle.arj_law_parts.proofs.parts.Keys.{put_other, put_same, without_other, without_same}
use Rattle.arj_law_parts.specs.moves.Moments.{Moment, asks_now, at, fits, framed_if, given, halted, posted, said, sent}
use Rattle.arj_law_parts.specs.moves.Seen as seen
use Rattle.arj_law_parts.specs.moves.Seen.{In}
use Rattle.arj_law_parts.specs.moves.With.{ArePlain, KeepsSteps, UpWith, WalksWith, is_plain_line}
use Rattle.arj_law_promise.proofs.Terms.{IsAtStarts, KeepsAsked, asked_both, keeps_asked}
use Rattle.arj_law_promise.proofs.settling.{Rights.right_keep, Settled.sorted_as, Stills.IsRight}
use Rattle.arj_law_runs.proofs.journal.Books.{book_more}
use Rattle.arj_law_runs.proofs.journal.Models.{right_before}
use Rattle.arj_law_runs.proofs.Terms.{new_book}
use Rattle.arj_law_runs.proofs.kept.Walked.{other_number, same_number}
use Rattle.arj_model.specs.CausePends.{halts_preparing}
use Rattle.arj_model.specs.Past.{Asked as AskedOf}
use Rattle.arj_law_cause.proofs.rows.Fair as fairly
use Rattle.arj_law_cause.proofs.rows.Fair.{Fair, IsApart}
use Rattle.arj_law_cause.proofs.rows.Pends.{IsCalledAt, Keeping, NoDone, Pends, called_place, done_keeps, or_last, pends_more, pends_new}
use Rattle.arj_law_cause.proofs.rows.Pends.{quiet_keeps, step_keeps}

-- ---- what is known besides

-- what is right, and that requests come from home
abbrev pub Right : Seen → Type 0
Right S = IsRight S × RequestsAreHome S

pub right_asked : (hd : Header) → KeepsAsked hd Right
right_asked hd = asked_both hd IsRight RequestsAreHome (keeps_asked hd IsRight (right_keep hd))
    (keeps_asked hd RequestsAreHome (home_keep hd))

pub right_steps : (hd : Header) → KeepsSteps hd (Wide Right)
right_steps hd = wide_steps hd (IsAtStarts hd Right) Right (right_asked hd)

plain_quiet : (bs : List Body) → ArePlain bs → seen.AreQuiet bs
plain_quiet [] h = refl
plain_quiet (b ∷ bs) h = let parts = and_parts (is_plain_line b) (list_all is_plain_line bs) h in
    λ i. one b parts.0 i && plain_quiet bs parts.1 i
  where
    one : (b : Body) → is_plain_line b ≡ true → seen.is_quiet_line b ≡ true
    one (body.Sent k from to what) h = refl
    one b h = h

-- ---- what is watched

-- the node that has stopped
abbrev pub fallen : ℕ → Disk → Node
fallen k c = record { number = k; disk = c; live = None }

-- the line that it has
abbrev pub fall : ℕ → ℕ → List Line
fall e k = numbered e (body.Halted k ∷ [])

-- What is watched. So much is known of lines, of those of the run before an event with this number; it is about such lines as may come,
-- and about the nodes that matter by then; and so much is known of whom a node was asked to prepare.
pub record Watch (A : List AskedOf) : Type 1 where
  pub base : List Line → ℕ → List Line → Type 0
  pub may : List Line → Type 0
  pub matter : List Line → List Line → Node → Type 0
  pub asked : ℕ → Uid → Type 0
  pub base_more : (r : List Line) (e : ℕ) (ls ms : List Line) → base r e ls → base r e (ls ++ ms)
  pub may_less : (r : List Line) (e : ℕ) (ls ms : List Line) → base r e ls → may (ls ++ ms) → may ls
  pub matter_less : (r ls ms : List Line) (n : Node) → matter r (ls ++ ms) n → matter r ls n
  pub ups : (r ls : List Line) (n : Node) → is_some n.live ≡ true → matter r ls n
  pub anew : (r ls : List Line) (n : Node) → r ≡ ls → matter r ls n
  pub downs : (r : List Line) (e : ℕ) (ls : List Line) (k : ℕ) (d : Disk) (live : Option Parts) → base r e ls →
      matter r (ls ++ fall e k) (fallen k d) → matter r ls (record { number = k; disk = d; live = live })
  pub sends : (r : List Line) (e : ℕ) (ls : List Line) (j k to : ℕ) (what : FrameKind) → base r e ls →
      may (ls ++ numbered e (body.Sent j k to what ∷ [])) → (u : Uid) → u.node ≡ k → asked to u
  pub selfs : (k : ℕ) (u : Uid) → u.node ≡ k → asked k u
  pub put : (r : List Line) (e : ℕ) (ls : List Line) (k : ℕ) (c : Disk) (u : Uid) → base r e ls → may (ls ++ fall e k) →
      matter r (ls ++ fall e k) (fallen k c) → asked k u → halts_preparing A u.node k ls e ≡ true

-- the lines of the run before the event
abbrev pub ran : Moment → List Line
ran M = let r = M.past.run in r.lines

module _ (A : List AskedOf) (W : Watch A) where
  -- what stores of nodes that matter have prepared may be pending
  abbrev pub Claims : List Line → Seen → Type 0
  Claims r S = (j : ℕ) (n : Node) (u : Uid) → S.nodes j ≡ Some n → W.matter r S.lines n → is_prepared u (let d = n.disk in d.store) ≡ true →
      Pends A S.lines j u

  -- whoever is asked to prepare something is known to be
  abbrev pub AreAsked : List Post → Type 0
  AreAsked posts = (q : Post) → In q posts → (h : Head) (states : List ObjectState) → asks q.message ≡ Some (h, ask.Prepare states) →
      (let u = actor h.path in u.node) ≡ q.from → W.asked q.to (actor h.path)

  abbrev pub Held : Moment → Type 0
  Held M = W.base (ran M) M.past.number M.seen.lines × (W.may M.seen.lines → AreAsked M.seen.sent × Claims (ran M) M.seen)

  -- beside what is right
  abbrev pub Watched : Moment → Type 0
  Watched M = Wide Right M × Held M

  -- ---- a node's effects

  abbrev Own : ℕ → Disk → List Line → Type 0
  Own k d ls = (u : Uid) → is_prepared u d.store ≡ true → Pends A ls k u

  abbrev Others : ℕ → Moment → Type 0
  Others k M = (j : ℕ) (n : Node) (u : Uid) → (j ≡ k → ⊥) → M.seen.nodes j ≡ Some n → W.matter (ran M) M.seen.lines n →
      is_prepared u (let d = n.disk in d.store) ≡ true → Pends A M.seen.lines j u

  here : (k : ℕ) (n : Node) (f : ℕ → Option Node) → cond (k == k) (Some n) (f k) ≡ Some n
  here k n f = λ i. cond (same_number k i) (Some n) (f k)

  -- the node and all others
  all_of : (k : ℕ) (d : Disk) (live : Option Parts) (M : Moment) → Own k d M.seen.lines → Others k M →
      Claims (ran M) (let N = at k d live M in N.seen)
  all_of k d live M own others j n u is m held = by (j == k) refl is
    where
      by : (b : Bool) → (j == k) ≡ b → cond b (Some (record { number = k; disk = d; live = live })) (M.seen.nodes j) ≡ Some n →
          Pends A M.seen.lines j u
      by true same e = let node : record { number = k; disk = d; live = live } ≡ n =
          (let z : ◌≡◌ {A = Option Node} (Some (record { number = k; disk = d; live = live })) (Some n) = e in cc z) in
          subst (λ i. Pends A M.seen.lines i u) (sym (Words.eqb-true j k same)) (own u
          (ap (λ (z : Node). is_prepared u (let c = z.disk in c.store)) node ∙ held))
      by false apart e = others j n u (λ same. let no_way : true ≡ false = sym (ap (λ z. z == k) same ∙ same_number k) ∙ apart in cc no_way)
          e m held

  module _ (k : ℕ) (v : Parts) (May : Uid → Type 0) where
    abbrev Knows : Disk → Moment → Type 0
    Knows d M = (AreAsked M.seen.sent × ((u : Uid) → May u → W.asked k u)) × (Own k d M.seen.lines × Others k M)

    -- the node has this disk now
    abbrev State : Disk → Moment → Type 0
    State d M = W.base (ran M) M.past.number M.seen.lines × (W.may M.seen.lines → Knows d M)

    others_more : (M : Moment) (bs : List Body) → ((j : ℕ) (u : Uid) → (j ≡ k → ⊥) → Keeping A j u (numbered M.past.number bs)) →
        Others k M → Others k (said bs M)
    others_more M bs keeps o j n u apart is m held = pends_more A M.seen.lines (numbered M.past.number bs) j u (keeps j u apart)
        (o j n u apart is (W.matter_less (ran M) M.seen.lines (numbered M.past.number bs) n m) held)

    -- more lines come
    grown : (d c : Disk) (M : Moment) (bs : List Body) →
        ((j : ℕ) (u : Uid) → (j ≡ k → ⊥) → Keeping A j u (numbered M.past.number bs)) →
        (Own k d M.seen.lines → Own k c (M.seen.lines ++ numbered M.past.number bs)) → State d M → State c (said bs M)
    grown d c M bs keeps own s = (
      W.base_more (ran M) M.past.number M.seen.lines (numbered M.past.number bs) s.0,
      λ fit. let q = s.1 (W.may_less (ran M) M.past.number M.seen.lines (numbered M.past.number bs) s.0 fit) in
          (q.0, (own q.1.0, others_more M bs keeps q.1.1)),
    )

    own_more : (d : Disk) (M : Moment) (bs : List Body) → ((u : Uid) → Keeping A k u (numbered M.past.number bs)) →
        Own k d M.seen.lines → Own k d (M.seen.lines ++ numbered M.past.number bs)
    own_more d M bs keeps own u held = pends_more A M.seen.lines (numbered M.past.number bs) k u (keeps u) (own u held)

    said_so : (d : Disk) (M : Moment) (b : Body) → NoDone b → State d M → State d (said (b ∷ []) M)
    said_so d M b free s = grown d d M (b ∷ []) (λ j u apart. step_keeps A M.past.number j u b free)
        (own_more d M (b ∷ []) (λ u. step_keeps A M.past.number k u b free)) s

    -- a message is sent
    sent_so : (d : Disk) (to : ℕ) (m : Message) (M : Moment) → State d M → State d (sent (post k to m) M)
    sent_so d to m M s = by (to == k) refl (fits M)
      where
        with_it : (posts : List Post) → ((u : Uid) → u.node ≡ k → W.asked to u) → AreAsked posts → AreAsked (post k to m ∷ posts)
        with_it posts its all q (inl same) h states is home =
            subst (λ (z : Post). W.asked z.to (actor h.path)) same (its (actor h.path) (home ∙ ap (λ (z : Post). z.from) (sym same)))
        with_it posts its all q (inr there) h states is home = all q there h states is home

        by : (self : Bool) → (to == k) ≡ self → (fit : Bool) → State d (if self then posted (post k to m) M else framed_if fit
            (post k to m) M)
        by true same fit = (
          s.0,
          λ may. let q = s.1 may in (
            (
              with_it M.seen.sent (λ u home. subst (λ n. W.asked n u) (sym (Words.eqb-true to k same))
                  (W.selfs k u home)) q.0.0,
              q.0.1,
            ),
            q.1,
          ),
        )
        by false apart true =
            let b = body.Sent (M.past.frames + 1) k to (frame_kind m) in
            let g = said_so d M b tt s in (
              g.0,
              λ may. let q = g.1 may in (
                (
                  with_it M.seen.sent (W.sends (ran M) M.past.number M.seen.lines (M.past.frames + 1) k to
                      (frame_kind m) s.0 may) q.0.0,
                  q.0.1,
                ),
                q.1,
              ),
            )
        by false apart false = s

    -- a work on a store is done, with its line
    sorted_of : (c : Disk) (M : Moment) → Wide Right (halted k c M) → objects.AreSorted (let p = c.store in p.pend)
    sorted_of c M right =
        let a = (let z = right.2.0.0.0.1 in z.2.1) in
        let n = a.nodes k (fallen k c) (here k (fallen k c) M.seen.nodes) in
        let s = n.store in sorted_as (let p = c.store in p.pend) s.sorted

    -- who has something prepared was called before
    called_of : (c : Disk) (M : Moment) → Wide Right (halted k c M) → (u : Uid) → is_prepared u c.store ≡ true → IsCalledAt M.seen.lines u
    called_of c M right u held =
        let r = right.2.0 in
        called_place M.seen.lines (right_before new_book M.seen.lines (record { event = M.past.number; body = body.Halted k }) []
        (let w = r.0.0.0.0.1 in w.right)).0 u (ap (λ B. Words.is_on (let X = B in X.called) u) (sym (book_more new_book M.seen.lines
        (fall M.past.number k))) ∙ r.1.called u k (r.1.held u k (fallen k c, here k (fallen k c) M.seen.nodes, held)))

    put_pend : (u x : Uid) (states : List ObjectState) (pend : List (Uid × List ObjectState)) → (x ≡ u → ⊥) →
        is_some (at_uid x (put_uid u states pend)) ≡ true → is_some (at_uid x pend) ≡ true
    put_pend u x states pend other held = ap is_some (sym (put_other x u states pend other)) ∙ held

    uid_off : (w u : Uid) → (u ≡ w → ⊥) → uid_eq w u ≡ false
    uid_off w u other = by (uid_eq w u) refl
      where
        by : (b : Bool) → uid_eq w u ≡ b → b ≡ false
        by false is = refl
        by true is = absurd (other (sym (uid_is w u is)))

    number_off : (j : ℕ) → (j ≡ k → ⊥) → (k == j) ≡ false
    number_off j other = by (k == j) refl
      where
        by : (b : Bool) → (k == j) ≡ b → b ≡ false
        by false is = refl
        by true is = absurd (other (sym (Words.eqb-true k j is)))

    put_so : (u : Uid) (states : List ObjectState) (d : Disk) (M : Moment) → IsCalledAt M.seen.lines u → State d M →
        State (worked (Prepare role.Store u states) d) (said (body.Prepared k u role.Store ∷ []) M)
    put_so u states d M called s =
        let e = M.past.number in
        let b = body.Prepared k u role.Store in
        grown d (worked (Prepare role.Store u states) d) M (b ∷ []) (λ j x apart. step_keeps A e j x b tt)
        (λ own x held. ⊎_elim {C = Pends A (M.seen.lines ++ numbered e (b ∷ [])) k x}
        (λ same. subst (Pends A (M.seen.lines ++ numbered e (b ∷ [])) k) (sym same)
        (pends_new A M.seen.lines e k b u called (λ on. (λ i. on || (same_number k i && uid_same u i)) ∙ or_last on)))
        (λ other. pends_more A M.seen.lines (numbered e (b ∷ [])) k x (step_keeps A e k x b tt)
        (own x (put_pend u x states (let p = d.store in p.pend) other held))) (uid_cases x u)) s

    -- what an end leaves
    cut : (u : Uid) (c : Disk) (M : Moment) → Wide Right (halted k c M) → (x : Uid) →
        is_some (at_uid x (without_uid u (let p = c.store in p.pend))) ≡ true → (x ≡ u → ⊥) × (is_prepared x c.store ≡ true)
    cut u c M right x held = (other, ap is_some (sym (without_other x u (let p = c.store in p.pend) other)) ∙ held)
      where
        other : x ≡ u → ⊥
        other same = let no_way : false ≡ true = sym (ap is_some (ap (λ w. at_uid w (without_uid u (let p = c.store in p.pend))) same
            ∙ without_same u (let p = c.store in p.pend) (sorted_of c M right))) ∙ held in cc no_way

    done_so : (d c : Disk) (M : Moment) (u : Uid) (f : End) →
        ((x : Uid) → is_prepared x c.store ≡ true → (x ≡ u → ⊥) × (is_prepared x d.store ≡ true)) → State d M →
        State c (said (body.Done k u role.Store f ∷ []) M)
    done_so d c M u f left s =
        let e = M.past.number in
        let b = body.Done k u role.Store f in
        grown d c M (b ∷ []) (λ j x apart. done_keeps A e j k x u f (λ i. number_off j apart i && uid_eq u x))
        (λ own x held. let l = left x held in pends_more A M.seen.lines (numbered e (b ∷ [])) k x
        (done_keeps A e k k x u f ((λ i. (k == k) && uid_off u x l.0 i) ∙ and_off (k == k))) (own x l.1)) s
      where
        and_off : (b : Bool) → (b && false) ≡ false
        and_off true = refl
        and_off false = refl

    -- ---- stops

    -- what is prepared at the stop may have been pending before, or was asked for
    abbrev StopsSo : Disk → Moment → Type 0
    StopsSo c M = (u : Uid) → is_prepared u c.store ≡ true →
        Pends A M.seen.lines k u ⊎ (halts_preparing A u.node k M.seen.lines M.past.number ≡ true)

    falls : (d c : Disk) (M : Moment) → State d M → Wide Right (halted k c M) →
        (W.may (M.seen.lines ++ fall M.past.number k) → W.matter (ran M) (M.seen.lines ++ fall M.past.number k) (fallen k c) → Knows d M →
        StopsSo c M) → Watched (halted k c M)
    falls d c M s right so = (
      right,
      (
        W.base_more (ran M) M.past.number M.seen.lines (fall M.past.number k) s.0,
        λ may. let q = s.1 (W.may_less (ran M) M.past.number M.seen.lines (fall M.past.number k) s.0 may) in (q.0.0, claims may q),
      ),
    )
      where
        own_then : StopsSo c M → Own k c (M.seen.lines ++ fall M.past.number k)
        own_then stops u held = ⊎_elim {C = Pends A (M.seen.lines ++ fall M.past.number k) k u}
            (λ was. pends_more A M.seen.lines (fall M.past.number k) k u (step_keeps A M.past.number k u (body.Halted k) tt) was)
            (λ may. pends_new A M.seen.lines M.past.number k (body.Halted k) u (called_of c M right u held)
            (λ on. (λ i. on || (same_number k i && may i)) ∙ or_last on)) (stops u held)

        claims : W.may (M.seen.lines ++ fall M.past.number k) → Knows d M → Claims (ran M) (let N = halted k c M in N.seen)
        claims may q j n u is m held = by (j == k) refl is
          where
            by : (b : Bool) → (j == k) ≡ b → cond b (Some (fallen k c)) (M.seen.nodes j) ≡ Some n →
                Pends A (M.seen.lines ++ fall M.past.number k) j u
            by true same e = let node : fallen k c ≡ n = (let z : ◌≡◌ {A = Option Node} (Some (fallen k c)) (Some n) = e in cc z) in
                subst (λ i. Pends A (M.seen.lines ++ fall M.past.number k) i u) (sym (Words.eqb-true j k same))
                (own_then (so may (subst (W.matter (ran M) (M.seen.lines ++ fall M.past.number k)) (sym node) m) q) u
                (ap (λ (z : Node). is_prepared u (let y = z.disk in y.store)) node ∙ held))
            by false apart e = others_more M (body.Halted k ∷ []) (λ i x off. step_keeps A M.past.number i x (body.Halted k) tt) q.1.1 j n u
                (λ same. let no_way : true ≡ false = sym (ap (λ z. z == k) same ∙ same_number k) ∙ apart in cc no_way) e m held

    -- work apart from stores leaves them as they are, whatever a stop does to it
    apart_stays : (w : Work) → IsApart (λ u. ⊤) w → (how : Stop) (d : Disk) (u : Uid) →
        is_prepared u (let c = stopped how w d in c.store) ≡ true → is_prepared u d.store ≡ true
    apart_stays w its Before d u held = held
    apart_stays Look its After d u held = held
    apart_stays (PutInc i) its After d u held = held
    apart_stays (PutIntent x i) its After d u held = held
    apart_stays (RemoveIntent x) its After d u held = held
    apart_stays (Prepare role.Names x states) its After d u held = held
    apart_stays (Commit role.Names x) its After d u held = held
    apart_stays (Abort role.Names x) its After d u held = held
    apart_stays (Prepare role.Store x states) its After d u held = absurd its
    apart_stays (Commit role.Store x) its After d u held = absurd its
    apart_stays (Abort role.Store x) its After d u held = absurd its
    apart_stays Look its (InPart which) d u held = held
    apart_stays (PutInc i) its (InPart which) d u held = held
    apart_stays (PutIntent x i) its (InPart which) d u held = held
    apart_stays (RemoveIntent x) its (InPart which) d u held = held
    apart_stays (Prepare role.Names x states) its (InPart which) d u held = held
    apart_stays (Commit role.Names x) its (InPart which) d u held = held
    apart_stays (Abort role.Names x) its (InPart which) d u held = held
    apart_stays (Prepare role.Store x states) its (InPart which) d u held = absurd its
    apart_stays (Commit role.Store x) its (InPart which) d u held = absurd its
    apart_stays (Abort role.Store x) its (InPart which) d u held = absurd its

    apart_falls : (w : Work) → IsApart (λ u. ⊤) w → (how : Stop) (d : Disk) (M : Moment) → State d M →
        Wide Right (halted k (stopped how w d) M) → Watched (halted k (stopped how w d) M)
    apart_falls w its how d M s right = falls d (stopped how w d) M s right
        (λ may m q u held. inl (q.1.0 u (apart_stays w its how d u held)))

    -- an end leaves only what was prepared
    commit_stays : (x : Uid) (how : Stop) (d : Disk) (M : Moment) → Wide Right (halted k d M) → (u : Uid) →
        is_prepared u (let c = stopped how (Commit role.Store x) d in c.store) ≡ true → is_prepared u d.store ≡ true
    commit_stays x Before d M right u held = held
    commit_stays x After d M right u held = (cut x d M right u held).1
    commit_stays x (InPart which) d M right u held = held

    abort_stays : (x : Uid) (how : Stop) (d : Disk) (M : Moment) → Wide Right (halted k d M) → (u : Uid) →
        is_prepared u (let c = stopped how (Abort role.Store x) d in c.store) ≡ true → is_prepared u d.store ≡ true
    abort_stays x Before d M right u held = held
    abort_stays x After d M right u held = (cut x d M right u held).1
    abort_stays x (InPart which) d M right u held = held

    -- and what is put was asked for
    put_falls : (x : Uid) (states : List ObjectState) → May x → (how : Stop) (d : Disk) (M : Moment) → State d M →
        Wide Right (halted k (stopped how (Prepare role.Store x states) d) M) →
        Watched (halted k (stopped how (Prepare role.Store x states) d) M)
    put_falls x states its Before d M s right = falls d d M s right (λ may m q u held. inl (q.1.0 u held))
    put_falls x states its After d M s right = falls d (worked (Prepare role.Store x states) d) M s right (λ may m q u held.
        ⊎_elim {C = Pends A M.seen.lines k u ⊎ (halts_preparing A u.node k M.seen.lines M.past.number ≡ true)}
        (λ same. inr (W.put (ran M) M.past.number M.seen.lines k (worked (Prepare role.Store x states) d) u s.0 may m
        (subst (W.asked k) (sym same) (q.0.1 x its))))
        (λ other. inl (q.1.0 u (put_pend x u states (let p = d.store in p.pend) other held))) (uid_cases u x))
    put_falls x states its (InPart which) d M s right = falls d (stopped (InPart which) (Prepare role.Store x states) d) M s right
        (λ may m q u held. inl (q.1.0 u held))

    -- ---- one after another

    abbrev Rights : List Effect → Disk → Moment → Type 0
    Rights es d M = WalksWith (Wide Right) k es (UpWith (Wide Right) k v) d M

    abbrev Goes : List Effect → Disk → Moment → Type 0
    Goes es d M = WalksWith Watched k es (UpWith Watched k v) d M

    walk : (es : List Effect) (d : Disk) (M : Moment) → Fair May k es → State d M → Rights es d M → Goes es d M
    walk [] d M fair s r = (r, (s.0, λ may. let q = s.1 may in (q.0.0, all_of k d (Some v) M q.1.0 q.1.1)))
    walk (Say b ∷ es) d M fair s r = walk es d (said (b ∷ []) M) fair.1 (said_so d M b fair.0 s) r
    walk (Send to m ∷ es) d M fair s r = walk es d (sent (post k to m) M) fair (sent_so d to m M s) r
    walk (Do (Prepare role.Store u states) ∷ Say b ∷ es) d M fair s r = (
      λ how. put_falls u states fair.1.1 how d M s (r.0 how),
      subst (λ z. Goes es (worked (Prepare role.Store u states) d) (said (z ∷ []) M)) (sym fair.0)
          (walk es (worked (Prepare role.Store u states) d) (said (body.Prepared k u role.Store ∷ []) M) fair.1.0
          (put_so u states d M (called_of (worked (Prepare role.Store u states) d) M (r.0 After) u
          (ap is_some (put_same u states (let p = d.store in p.pend)))) s)
          (subst (λ z. Rights es (worked (Prepare role.Store u states) d) (said (z ∷ []) M)) fair.0 r.1)),
    )
    walk (Do (Commit role.Store u) ∷ Say b ∷ es) d M fair s r = (
      λ how. falls d (stopped how (Commit role.Store u) d) M s (r.0 how)
          (λ may m q x held. inl (q.1.0 x (commit_stays u how d M (r.0 Before) x held))),
      subst (λ z. Goes es (worked (Commit role.Store u) d) (said (z ∷ []) M)) (sym fair.0)
          (walk es (worked (Commit role.Store u) d) (said (body.Done k u role.Store ending.Commit ∷ []) M) fair.1
          (done_so d (worked (Commit role.Store u) d) M u ending.Commit (cut u d M (r.0 Before)) s)
          (subst (λ z. Rights es (worked (Commit role.Store u) d) (said (z ∷ []) M)) fair.0 r.1)),
    )
    walk (Do (Abort role.Store u) ∷ Say b ∷ es) d M fair s r = (
      λ how. falls d (stopped how (Abort role.Store u) d) M s (r.0 how)
          (λ may m q x held. inl (q.1.0 x (abort_stays u how d M (r.0 Before) x held))),
      subst (λ z. Goes es (worked (Abort role.Store u) d) (said (z ∷ []) M)) (sym fair.0)
          (walk es (worked (Abort role.Store u) d) (said (body.Done k u role.Store ending.Abort ∷ []) M) fair.1
          (done_so d (worked (Abort role.Store u) d) M u ending.Abort (cut u d M (r.0 Before)) s)
          (subst (λ z. Rights es (worked (Abort role.Store u) d) (said (z ∷ []) M)) fair.0 r.1)),
    )
    walk (Do (Prepare role.Store u states) ∷ []) d M fair s r = absurd fair
    walk (Do (Prepare role.Store u states) ∷ Do w ∷ es) d M fair s r = absurd fair
    walk (Do (Prepare role.Store u states) ∷ Send to m ∷ es) d M fair s r = absurd fair
    walk (Do (Commit role.Store u) ∷ []) d M fair s r = absurd fair
    walk (Do (Commit role.Store u) ∷ Do w ∷ es) d M fair s r = absurd fair
    walk (Do (Commit role.Store u) ∷ Send to m ∷ es) d M fair s r = absurd fair
    walk (Do (Abort role.Store u) ∷ []) d M fair s r = absurd fair
    walk (Do (Abort role.Store u) ∷ Do w ∷ es) d M fair s r = absurd fair
    walk (Do (Abort role.Store u) ∷ Send to m ∷ es) d M fair s r = absurd fair
    walk (Do Look ∷ es) d M fair s r = ((λ how. apart_falls Look tt how d M s (r.0 how)), walk es d M fair s r.1)
    walk (Do (PutInc i) ∷ es) d M fair s r =
        ((λ how. apart_falls (PutInc i) tt how d M s (r.0 how)), walk es (worked (PutInc i) d) M fair s r.1)
    walk (Do (PutIntent u i) ∷ es) d M fair s r =
        ((λ how. apart_falls (PutIntent u i) tt how d M s (r.0 how)), walk es (worked (PutIntent u i) d) M fair s r.1)
    walk (Do (RemoveIntent u) ∷ es) d M fair s r =
        ((λ how. apart_falls (RemoveIntent u) tt how d M s (r.0 how)), walk es (worked (RemoveIntent u) d) M fair s r.1)
    walk (Do (Prepare role.Names u states) ∷ es) d M fair s r = (
      λ how. apart_falls (Prepare role.Names u states) tt how d M s (r.0 how),
      walk es (worked (Prepare role.Names u states) d) M fair s r.1,
    )
    walk (Do (Commit role.Names u) ∷ es) d M fair s r =
        ((λ how. apart_falls (Commit role.Names u) tt how d M s (r.0 how)), walk es (worked (Commit role.Names u) d) M fair s r.1)
    walk (Do (Abort role.Names u) ∷ es) d M fair s r =
        ((λ how. apart_falls (Abort role.Names u) tt how d M s (r.0 how)), walk es (worked (Abort role.Names u) d) M fair s r.1)

  -- ---- whatever nodes do

  -- the node, from where it stands
  from_here : (k : ℕ) (d : Disk) (live : Option Parts) (M : Moment) (May : Uid → Type 0) (v : Parts) → Held (at k d live M) →
      W.matter (ran M) M.seen.lines (record { number = k; disk = d; live = live }) → (AreAsked M.seen.sent → (u : Uid) → May u →
      W.asked k u) →
      State k v May d M
  from_here k d live M May v h m its = (
    h.0,
    λ may. let q = h.1 may in (
      (q.0, its q.0),
      (
        (λ u held. q.1 k (record { number = k; disk = d; live = live }) u
            (here k (record { number = k; disk = d; live = live }) M.seen.nodes) m held),
        λ j n u apart is mn held. q.1 j n u
            ((λ i. cond (other_number j k apart i) (Some (record { number = k; disk = d; live = live })) (M.seen.nodes j)) ∙ is) mn held,
      ),
    ),
  )

  -- what a node does that prepares nothing
  plain_walk : (k : ℕ) (d : Disk) (live : Option Parts) (M : Moment) (v : Parts) (es : List Effect) → Fair (λ u. ⊥) k es →
      Held (at k d live M) → W.matter (ran M) M.seen.lines (record { number = k; disk = d; live = live }) →
      WalksWith (Wide Right) k es (UpWith (Wide Right) k v) d M → WalksWith Watched k es (UpWith Watched k v) d M
  plain_walk k d live M v es fair h m r = walk k v (λ u. ⊥) es d M fair (from_here k d live M (λ u. ⊥) v h m (λ all u none. absurd none)) r

  -- more lines that end nothing
  more_held : (M : Moment) (bs : List Body) → seen.AreQuiet bs → Held M → Held (said bs M)
  more_held M bs quiet h = (
    W.base_more (ran M) M.past.number M.seen.lines (numbered M.past.number bs) h.0,
    λ may. let q = h.1 (W.may_less (ran M) M.past.number M.seen.lines (numbered M.past.number bs) h.0 may) in (
      q.0,
      λ j n u is m held. pends_more A M.seen.lines (numbered M.past.number bs) j u (quiet_keeps A M.past.number bs j u quiet)
          (q.1 j n u is (W.matter_less (ran M) M.seen.lines (numbered M.past.number bs) n m) held),
    ),
  )

  stop_held : (k : ℕ) (d : Disk) (live : Option Parts) (M : Moment) → Held (at k d live M) → Held (halted k d M)
  stop_held k d live M h = (
    W.base_more (ran M) M.past.number M.seen.lines (fall M.past.number k) h.0,
    λ may. let q = h.1 (W.may_less (ran M) M.past.number M.seen.lines (fall M.past.number k) h.0 may) in (q.0, claims q.1),
  )
    where
      claims : Claims (ran M) (let N = at k d live M in N.seen) → Claims (ran M) (let N = halted k d M in N.seen)
      claims all j n u is m held = pends_more A M.seen.lines (fall M.past.number k) j u (step_keeps A M.past.number j u (body.Halted k) tt)
          (by (j == k) refl is)
        where
          by : (b : Bool) → (j == k) ≡ b → cond b (Some (fallen k d)) (M.seen.nodes j) ≡ Some n → Pends A M.seen.lines j u
          by true same e = let node : fallen k d ≡ n = (let z : ◌≡◌ {A = Option Node} (Some (fallen k d)) (Some n) = e in cc z) in
              all j (record { number = k; disk = d; live = live }) u
              (λ i. cond (same i) (Some (record { number = k; disk = d; live = live })) (M.seen.nodes j))
              (W.downs (ran M) M.past.number M.seen.lines k d live h.0
              (subst (W.matter (ran M) (M.seen.lines ++ fall M.past.number k)) (sym node) m))
              (ap (λ (z : Node). is_prepared u (let y = z.disk in y.store)) node ∙ held)
          by false apart e = all j n u ((λ i. cond (apart i) (Some (record { number = k; disk = d; live = live })) (M.seen.nodes j)) ∙ e)
              (W.matter_less (ran M) M.seen.lines (fall M.past.number k) n m) held

  pub watched_steps : (hd : Header) → KeepsSteps hd Watched
  watched_steps hd = let keeps = right_steps hd in record {
    quiet = λ bs M plain h. (keeps.quiet bs M plain h.0, more_held M bs (plain_quiet bs plain) h.1);
    junk = λ n M fit h.
        let g = more_held M (body.Sent (M.past.frames + 1) 0 n frame.Junk ∷ []) refl h.1 in (keeps.junk n M fit h.0, (g.0, g.1));
    stop = λ k d live M h. (keeps.stop k d live M h.0, stop_held k d live M h.1);
    message = λ k d t v from m outs M h there meant may is.
        walk k v (λ u. (g : Head) × (states : List ObjectState) × (asks m ≡ Some (g, ask.Prepare states)) × (actor g.path ≡ u)) outs d M
        (fairly.message_fair (λ u. (g : Head) × (states : List ObjectState) × (asks m ≡ Some (g, ask.Prepare states)) × (actor g.path ≡ u))
        k d t from m (λ g states its. (g, states, its, refl)) v outs is)
        (from_here k d (Some t) M (λ u. (g : Head) × (states : List ObjectState) × (asks m ≡ Some (g, ask.Prepare states))
        × (actor g.path ≡ u)) v h.1 (W.ups (ran M) M.seen.lines (record { number = k; disk = d; live = Some t }) refl)
        (λ all u its. subst (W.asked k) its.3 (all (post from k m) there its.0 its.1 its.2
        (h.0.2.1.1.0 (post from k m) its.0 (ask.Prepare its.1) (h.0.1 (post from k m) there) its.2))))
        (keeps.message k d t v from m outs M h.0 there meant may is);
    act = λ k d t i M is brings fresh asks free h. let did = does i d.intents t.coord in
        plain_walk k d (Some t) (asks_now i t.coord M) (with_coord t did.part) did.outs
        (fairly.fair_all (λ u. ⊥) k did.outs (fairly.coord_all (λ u. ⊥) did.outs (acts_own i d.intents t.coord))) h.1
        (W.ups (ran M) M.seen.lines (record { number = k; disk = d; live = Some t }) refl)
        (keeps.act k d t i M is brings fresh asks free h.0);
    begin = λ k d t l how parent M brings fresh new gives none h.
        let did = begin_action l how parent (parent_of parent t.coord) t.coord in
        plain_walk k d (Some t) (given l (record { node = k; serial = is_serial how }) M) (with_coord t did.part) did.outs
        (fairly.fair_all (λ u. ⊥) k did.outs (fairly.coord_all (λ u. ⊥) did.outs (acts_own
        (input.Begin l how parent) d.intents t.coord))) h.1
        (W.ups (ran M) M.seen.lines (record { number = k; disk = d; live = Some t }) refl)
        (keeps.begin k d t l how parent M brings fresh new gives none h.0);
    tick = λ k d t M h. let r = again_all t.coord.doings t.coord in
        plain_walk k d (Some t) M (with_coord t r.part) (tick_outs (record { number = k; disk = d; live = Some t }) t)
        (fairly.tick_fair (λ u. ⊥) (record { number = k; disk = d; live = Some t }) t) h.1
        (W.ups (ran M) M.seen.lines (record { number = k; disk = d; live = Some t }) refl) (keeps.tick k d t M h.0);
    restart = λ k d M event first h. plain_walk k d None M (parts_in k (d.inc + 1) d) (restart_outs hd k (d.inc + 1) d)
        (fairly.restart_fair (λ u. ⊥) hd k (d.inc + 1) d) h.1 (W.anew (ran M) M.seen.lines (fallen k d) first)
        (keeps.restart k d M event first h.0);
  }
