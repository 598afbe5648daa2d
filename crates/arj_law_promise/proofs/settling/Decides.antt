-- A top is decided that naming confirmed: each store that was asked has something prepared and is listed by the record, or was excluded.
use Rattle.arj_law_parts.proofs.Words
use Words.{◌≡◌, ◌≢◌, ◌⊎◌, ◌∙◌, ◌++◌, ◌||◌, ◌&&◌, ℕ, Bool, true, false, cond, List, [], ◌∷◌, map, not, Option, Some, None, refl, sym, ap}
use Words.{subst, inl, inr, ⊎_elim, Contains, is_some, option_map, AllByRecursion, Body, End, Head, ObjectState, Uid, asks, actor, last_end}
use Words.{Confirming, Machine, Plan, has_record, included_of, naming_node, participants, servers_of, Committing, Coord, Doing}
use Words.{doing_of, on_doing, on_root, After, Before, Disk, Do, Effect, InPart, Intent, PutIntent, Stop, is_prepared, stopped, worked}
use Words.{decide, decided_told, ended, root_after, say_for, says, tell, Parts, at_uid, has, put_uid, Node, Branch, branch_of, root_of}
use Words.{Post, Seen, is_empty}
use Words.ask
use Words.body
use Words.ending
use Rattle.arj_law_promise.proofs.Terms
use Terms.{Act, Action, paths_of, IsBusy, IsGoodCoord, IsVoting, IsTree, told_by, begun_tree, actor_is, put_cases, put_other, put_same}
use Terms.{doing_telling, ended_telling, IsGoodOf, up, Up, Walks, halted, is_awaited_by, has_set, book, is_decided, uid_in, IsKnown}
use Terms.{was_excluded, IsAt, some_is}
use Rattle.arj_law_disk_view.proofs.view.Planned.{has_both}
use Rattle.arj_law_promise.proofs.settling
use settling.{Causes.excluded_more, Lights.stop_core, Parts.last_in, Steps.Either, Steps.step_halt, Steps.step_walk, Stills.IsNoAnswer}
use settling.{Stills.IsRight, Yeses.AskedFrom, Yeses.SaidYes}
use settling.Cores.{HasMarks, IsAcked, IsAsked, IsCore, IsDone, IsHeld, IsSafe, IsWatched, TellsAbort, WasTold, marks_on}
use settling.Knowns.{Known, coord, knows, node_is, open_undone, told_closed}
use settling.Milds.{IsMild, here_is, held_stays, mild_core, now_cases, the_node, votes_sent, was_cases}
use settling.Trails.{FitsSo, LineMild, Went, mild_clean, mild_decides, quiet_mild}
use Rattle.arj_law_serial.proofs.joint.Comes.{came_decide}

module _ (k : ℕ) (d : Disk) (t : Parts) (M : Seen) (right : IsRight (up k d t M)) (e : ℕ) (u : Uid) (q : Doing) (p : Plan)
    (found : doing_of u t.coord ≡ Some q) (now : q.now ≡ Committing (Confirming p)) where
  abbrev Start : Seen
  Start = up k d t M

  abbrev P : Plan
  P = record p { confirmed = true }

  abbrev i : Intent
  i = record { root = root_of p.path; nodes = participants (record p { confirmed = true }) }

  here : Start.nodes k ≡ Some (the_node k d (Some t))
  here = here_is k d (Some t) M

  abbrev begun : List Action
  begun = right.0.0.0.0.0.0

  good : IsGoodOf begun Start
  good = right.0.0.0.0.0.1

  tree : IsTree (paths_of begun)
  tree = begun_tree begun good.begun

  coords : IsGoodCoord begun (paths_of begun) t.coord
  coords = coord Start right.0 k (the_node k d (Some t)) t here refl

  pub watched : IsWatched Start k (the_node k d (Some t)) t
  watched = let core = right.1 in core.coords k (the_node k d (Some t)) t here refl

  pub voting : IsVoting t.coord.tree u p
  voting = subst (IsBusy t.coord.tree u) now (coords.busy u q found)

  pub there : branch_of u t.coord.tree ≡ Some (let v = voting in let a = v.asking in a.branch)
  there = let v = voting in let a = v.asking in a.found

  pub opened : is_some (let v = voting in let a = v.asking in let b = a.branch in b.ended) ≡ false
  opened = let v = voting in let a = v.asking in a.opened

  pub acts_for : actor p.path ≡ u
  acts_for = actor_is begun (paths_of begun) tree u p.path t.coord coords (let v = voting in v.asking)

  pub home : u.node ≡ k
  home = node_is Start right.0 k (the_node k d (Some t)) t here refl u (let v = voting in let a = v.asking in a.branch) there

  pub undone : IsDone Start u → ⊥
  undone = open_undone Start right.0 k (the_node k d (Some t)) t here refl u (let v = voting in let a = v.asking in a.branch) there opened

  untold : WasTold M.sent u → ⊥
  untold told = told_closed Start right.0 k (the_node k d (Some t)) t here refl u home told (let v = voting in let a = v.asking in
      a.branch) there opened

  pub unacked : (n : ℕ) → IsAcked M.sent n u → ⊥
  unacked n acked = let core = right.1 in untold (core.ends u n acked)

  not_aborted : (n : ℕ) → TellsAbort M.sent u n → ⊥
  not_aborted n (z, is, to, last) = untold (z, is, ending.Abort, last_is z last)
    where
      last_is : (y : Post) → last_end (told_by y.message) ≡ Some (u, ending.Abort) → Contains (told_by y.message) (u, ending.Abort)
      last_is y l = last_in (told_by y.message) (u, ending.Abort) l

  -- whoever was asked said Yes, and has something prepared, or was excluded
  heard : (n : ℕ) → IsAsked Start u n → ((has p.prepared n ≡ true) × IsHeld Start n u) ⊎ (was_excluded M.lines n u ≡ true)
  heard n asked = ⊎_elim
      (λ yes. inl (yes.0, watched.held u n home (q, Confirming p, found, now) yes.1))
      (λ marked. inr (watched.marked u q (Confirming p) found now n marked))
      (watched.votes u q (Confirming p) found now n (subst (λ j. AskedFrom j M.sent u n) home asked))

  pub listed : (n : ℕ) → has p.prepared n ≡ true → has (participants (record p { confirmed = true })) n ≡ true
  listed n on = has_set (servers_of P ++ p.prepared ++ naming_node P) n
      (has_both (servers_of P ++ p.prepared) (naming_node P) n (inl (has_both (servers_of P) p.prepared n (inr on))))

  pub its_label : (x : Uid) → uid_in (let B = book M.lines in B.acts) q.label ≡ Some x → x ≡ u
  its_label x is =
      let g = knows Start right.0 k (the_node k d (Some t)) t here refl in
      let w = g.knows in
      let b : Branch = (let v = voting in let a = v.asking in a.branch) in
      let s : IsKnown (book M.lines) u b.kind b.ended q.label = w.acts u b q there found in
      sym (some_is (sym (ap (λ o. option_map (λ (y : Act). y.uid) o) s.named ∙ ap Some s.uid) ∙ is))

  -- ---- what is sent

  abbrev Sends : Post → Type 0
  Sends z = (((h : Head) (states : List ObjectState) → asks z.message ≡ Some (h, ask.Prepare states) → ⊥) × ((x : Uid) →
      last_end (told_by z.message) ≡ Some (x, ending.Abort) → (x ≡ u) × (has (participants (record p { confirmed = true })) z.to ≡ false)))
      × IsNoAnswer z.message

  abbrev Says : Body → Type 0
  Says = LineMild (λ x. x ≡ u) (let B = book M.lines in B.acts)

  module _ (c : Disk) where
    abbrev Is : Disk → Type 0
    Is b = b ≡ c

    fits_both : (xs ys : List Effect) → AllByRecursion (FitsSo k M Says Sends (quiet_mild (λ x. x ≡ u) (let B = book M.lines in B.acts)) tt
        Is) xs → AllByRecursion (FitsSo k M Says Sends (quiet_mild (λ x. x ≡ u) (let B = book M.lines in B.acts)) tt Is) ys →
        AllByRecursion (FitsSo k M Says Sends (quiet_mild (λ x. x ≡ u) (let B = book M.lines in B.acts)) tt Is) (xs ++ ys)
    fits_both [] ys a b = b
    fits_both (x ∷ xs) ys a b = (a.0, fits_both xs ys a.1 b)

    fits_says : AllByRecursion (FitsSo k M Says Sends (quiet_mild (λ x. x ≡ u) (let B = book M.lines in B.acts)) tt Is)
        (says (actor p.path) body.Committed t.coord)
    fits_says = subst (λ o. AllByRecursion (FitsSo k M Says Sends (quiet_mild (λ x. x ≡ u) (let B = book M.lines in B.acts)) tt Is)
        (say_for body.Committed o)) (sym (ap (λ z. doing_of z t.coord) acts_for ∙ found)) (its_label, tt)

    fits_tolds : (ns : List ℕ) → AllByRecursion (FitsSo k M Says Sends (quiet_mild (λ x. x ≡ u) (let B = book M.lines in B.acts)) tt Is)
        (map (decided_told (root_of p.path) (actor p.path) (record p { confirmed = true })) ns)
    fits_tolds [] = tt
    fits_tolds (n ∷ ns) = (one (has (participants P) n) refl, fits_tolds ns)
      where
        one : (b : Bool) → has (participants (record p { confirmed = true })) n ≡ b → FitsSo k M Says Sends (quiet_mild (λ x. x ≡ u)
            (let B = book M.lines in B.acts)) tt Is (cond b (tell (root_of p.path) (has_record (record p { confirmed = true }))
            ((actor p.path, ending.Commit) ∷ []) n) (tell (root_of p.path) false ((actor p.path, ending.Abort) ∷ []) n))
        one true on = (
          (
            (λ h states z. absurd (cc z)),
            (λ x last. absurd (let z : ending.Commit ≡ ending.Abort = ap (λ (y : Uid × End). y.1) (some_is last) in cc z)),
          ),
          ((λ a z. cc z), (λ w z. cc z)),
        )
        one false off = (
          ((λ h states z. absurd (cc z)), (λ x last. (sym (ap (λ (y : Uid × End). y.0) (some_is last)) ∙ acts_for, off))),
          ((λ a z. cc z), (λ w z. cc z)),
        )

    fits : AllByRecursion (FitsSo k M Says Sends (quiet_mild (λ x. x ≡ u) (let B = book M.lines in B.acts)) tt Is) (says (actor p.path)
        body.Committed t.coord ++ map (decided_told (root_of p.path) (actor p.path) (record p { confirmed = true })) p.sent)
    fits = fits_both (says (actor p.path) body.Committed t.coord) (map (decided_told (root_of p.path) (actor p.path) P) p.sent) fits_says
        (fits_tolds p.sent)

    -- ---- the step, with this on the disk

    module _ (v : Parts) (part : v.coord ≡ (decide (record p { confirmed = true }) t.coord).part) (store : c.store ≡ d.store)
        (recs : (x : Uid) (j : Intent) → at_uid x c.intents ≡ Some j → (at_uid x d.intents ≡ Some j)
        ⊎ ((x ≡ u) × (j ≡ record { root = root_of p.path; nodes = participants (record p { confirmed = true }) })))
        (stays : (x : Uid) (j : Intent) → x ≢ u → at_uid x d.intents ≡ Some j → at_uid x c.intents ≡ Some j)
        (puts : (n : ℕ) → has p.prepared n ≡ true →
        at_uid u c.intents ≡ Some (record { root = root_of p.path; nodes = participants (record p { confirmed = true }) }))
        (awaits : (x : Uid) (j : Intent) (n : ℕ) → at_uid x c.intents ≡ Some j → has j.nodes n ≡ true → (is_awaited_by n (at_uid x
        v.coord.telling) ≡ true) ⊎ ((at_uid x d.intents ≡ Some j) × (at_uid x v.coord.telling ≡ at_uid x t.coord.telling))) where
      module _ (Z : Seen) (w : Went k M Says Sends (Either Is v) Z) where
        disk_is : w.disk ≡ c
        disk_is = w.fits.0

        same_store : (let b = w.disk in b.store) ≡ d.store
        same_store = ap (λ (b : Disk). b.store) disk_is ∙ store

        -- a record is an old one, or this
        record_cases : (x : Uid) (a : Node) (j : Intent) → Z.nodes x.node ≡ Some a → at_uid x (let b = a.disk in b.intents) ≡ Some j →
            ((a1 : Node) × (Start.nodes x.node ≡ Some a1) × (at_uid x (let b = a1.disk in b.intents) ≡ Some j))
            ⊎ ((x ≡ u) × (j ≡ record { root = root_of p.path; nodes = participants (record p { confirmed = true }) }))
        record_cases x a j is at_it = ⊎_elim
            (λ mine. ⊎_elim (λ old. inl (the_node k d (Some t), ap Start.nodes mine.0 ∙ here, old)) (λ new. inr new)
            (recs x j (ap (λ (b : Disk). at_uid x b.intents) (sym disk_is)
            ∙ ap (λ (z : Node). let b = z.disk in at_uid x b.intents) (sym mine.1) ∙ at_it)))
            (λ other. inl (a, other.1, at_it))
            (now_cases k d (Some t) M Says Sends (Either Is v) Z w x.node a is)

        -- an old record is there
        record_on : (x : Uid) (a : Node) (j : Intent) → Start.nodes x.node ≡ Some a → at_uid x (let b = a.disk in b.intents) ≡ Some j →
            (a1 : Node) × (Z.nodes x.node ≡ Some a1) × (at_uid x (let b = a1.disk in b.intents) ≡ Some j)
        record_on x a j is at_it = ⊎_elim
            (λ mine. (
              the_node k w.disk w.live,
              ap Z.nodes mine.0 ∙ w.here,
              ap (λ (b : Disk). at_uid x b.intents) disk_is ∙ stays x j (λ one. undone (inr (
                a,
                j,
                ap (λ (z : Uid). Start.nodes z.node) (sym one) ∙ is,
                ap (λ z. at_uid z (let b = a.disk in b.intents)) (sym one) ∙ at_it,
              ))) (ap (λ (z : Node). let b = z.disk in at_uid x b.intents) (sym mine.1) ∙ at_it),
            ))
            (λ other. (a, other.1, at_it))
            (was_cases k d (Some t) M Says Sends (Either Is v) Z w x.node a is)

        its_held : (n : ℕ) (x : Uid) → IsHeld Start n x → IsHeld Z n x
        its_held n x h = held_stays k d (Some t) M Says Sends (Either Is v) Z w (λ y on. ap (is_prepared y) same_store ∙ on) n x h

        no_yes : (x : Uid) (n : ℕ) → SaidYes Z.sent n x → SaidYes M.sent n x
        no_yes x n (z, is, from, a, says_it, act) =
            ⊎_elim (λ old. (z, old, from, a, says_it, act)) (λ new. absurd (let s = new.1 in let y = s.1 in y.0 a says_it)) (w.back z is)

        -- who was asked is safe
        safe : (n : ℕ) → IsAsked Start u n → IsSafe Z u n
        safe n asked = ⊎_elim
            (λ yes. inl (
              its_held n u yes.1,
              (
                the_node k w.disk w.live,
                i,
                ap Z.nodes home ∙ w.here,
                ap (λ (b : Disk). at_uid u b.intents) disk_is ∙ puts n yes.0,
                listed n yes.0,
              ),
            ))
            (λ out. inr (inr (inl (subst (λ ls. was_excluded ls n u ≡ true) (sym w.lines) (excluded_more M.lines w.more n u out)))))
            (heard n asked)

        watches : w.live ≡ Some v → IsWatched Z k (the_node k w.disk w.live) v
        watches up_it = record {
          marked = λ x r m at_it is. let o = was x r m at_it is in
              subst (λ ls. HasMarks ls x m) (sym w.lines) (marks_on M.lines w.more x m (watched.marked x o.0 m o.1 o.2));
          held = λ x n own at_it said. let o = was x at_it.0 at_it.1 at_it.2 at_it.3 in
              its_held n x (watched.held x n own (o.0, at_it.1, o.1, o.2) (no_yes x n said));
          votes = λ x r m at_it is. let o = was x r m at_it is in
              votes_sent k M.sent Z.sent w.on x m (λ n asked. inl (no_ask x n asked)) (watched.votes x o.0 m o.1 o.2);
          telling = λ x j n at_it on. ⊎_elim (λ waits. inl waits)
              (λ old. ⊎_elim (λ waits. inl (ap (is_awaited_by n) old.1 ∙ waits))
              (λ acked. inr (acked.0, w.on acked.0 acked.1, acked.2, acked.3)) (watched.telling x j n old.0 on))
              (awaits x j n (ap (λ (b : Disk). at_uid x b.intents) (sym disk_is) ∙ at_it) on);
        }
          where
            was : (x : Uid) (r : Doing) (m : Machine) → doing_of x v.coord ≡ Some r → r.now ≡ Committing m → IsAt t.coord x m
            was x r m at_it is = ⊎_elim (λ old. old) (λ new. absurd new)
                (came_decide (λ a b. ⊥) t.coord P t.coord (λ y n z. inl z) x m (r, ap (doing_of x) (sym part) ∙ at_it, is))

            no_ask : (x : Uid) (n : ℕ) → AskedFrom k Z.sent x n → AskedFrom k M.sent x n
            no_ask x n (z, is, from, to, h, states, asking, act) = ⊎_elim (λ old. (z, old, from, to, h, states, asking, act))
                (λ new. absurd (let s = new.1 in let y = s.0 in y.0 h states asking)) (w.back z is)

        mild : IsMild k d (Some t) M (λ x. x ≡ u) Says Sends (Either Is v) Z w
        mild = record {
          decides = λ x on. mild_decides (λ y. y ≡ u) M.lines w.more w.said_so x (subst (λ ls. is_decided (book ls) x ≡ true) w.lines on);
          clean = λ before line behind n x is says decided.
              absurd (mild_clean (λ y. y ≡ u) (let B = book M.lines in B.acts) w.more before line behind n x w.said_so is says);
          recorded = λ x r. ⊎_elim (λ old. inl (old.0, r.1, old.1, old.2)) (λ new. inr new.0) (record_cases x r.0 r.1 r.2 r.3);
          done = λ x n is asked. inr (subst (λ z. IsSafe Z z n × (IsAcked M.sent n z → ⊥)) (sym is)
              ((safe n (subst (λ z. IsAsked Start z n) is asked), unacked n)));
          lists = λ x n l asked. let r = record_on x l.0 l.1 l.2 l.3 in inl (r.0, l.1, r.1, r.2, l.4);
          back = λ x n tells asked l. ⊎_elim (λ old. (old.0, l.1, old.1, old.2, l.4))
              (λ new. absurd (not_aborted n (subst (λ z. TellsAbort M.sent z n) new.0 tells))) (record_cases x l.0 l.1 l.2 l.3);
          keeps = λ x on. inl (ap (is_prepared x) same_store ∙ on);
          new = λ x on. inl (ap (is_prepared x) (sym same_store) ∙ on);
          asks = λ z so h states is. absurd (let s = so.0 in s.0 h states is);
          tells = λ z so x last asked l. let s = so.0 in let b = s.1 x last in ⊎_elim
              (λ old. undone (subst (IsDone Start) b.0 (inr (old.0, l.1, old.1, old.2))))
              (λ new. let no_way : true ≡ false = sym l.4 ∙ ap (λ (j : Intent). has j.nodes z.to) new.1 ∙ b.1 in cc no_way)
              (record_cases x l.0 l.1 l.2 l.3);
          yeses = λ z so a is. absurd (let y = so.1 in y.0 a is);
          acks = λ z so x is. absurd (let y = so.1 in y.1 x is);
          here = λ x up_it. ⊎_elim (λ none. absurd (let no_way : ◌≡◌ {A = Option Parts} None (Some x) = sym none ∙ up_it in cc no_way))
              (λ its. subst (IsWatched Z k (the_node k w.disk w.live)) (some_is (sym its ∙ up_it)) (watches its)) w.fits.1;
        }

        decided_core : IsCore Z
        decided_core = mild_core k d (Some t) M (λ x. x ≡ u) Says Sends (Either Is v) Z w right.1 mild

      decided_rest : (outs : List Effect) → outs ≡ says (actor p.path) body.Committed t.coord
          ++ map (decided_told (root_of p.path) (actor p.path) (record p { confirmed = true })) p.sent →
          Walks Known e k outs (Up Known k v) c M → Walks IsRight e k outs (Up IsRight k v) c M
      decided_rest outs are known = step_walk Known IsCore k M Says Sends (quiet_mild (λ x. x ≡ u) (let B = book M.lines in B.acts)) tt Is v
          e outs c (subst (AllByRecursion (FitsSo k M Says Sends (quiet_mild (λ x. x ≡ u) (let B = book M.lines in B.acts)) tt Is))
          (sym are) fits) refl (λ Z its w. decided_core Z w) known

      decided_halt : Known (halted e k c M) → IsRight (halted e k c M)
      decided_halt known = step_halt Known IsCore k M Says Sends (quiet_mild (λ x. x ≡ u) (let B = book M.lines in B.acts)) tt Is v e c refl
          (λ Z its w. decided_core Z w) known

  -- ---- both ways

  module _ (v : Parts) (part : v.coord ≡ (decide (record p { confirmed = true }) t.coord).part) where
    telling_same : (on_root (root_of p.path) (root_after (record p { confirmed = true })) (on_doing (actor p.path) (λ (z : Doing). record z
        { took = participants (record p { confirmed = true }) }) (ended (actor p.path) ending.Commit t.coord))).telling ≡ t.coord.telling
    telling_same = doing_telling (actor p.path) (λ (z : Doing). record z { took = participants P })
        (ended (actor p.path) ending.Commit t.coord) ∙ ended_telling (actor p.path) t.coord ending.Commit

    telling_is : (b : Bool) → has_record (record p { confirmed = true }) ≡ b → v.coord.telling ≡ cond b
        (put_uid u (record { root = root_of p.path; nodes = participants (record p { confirmed = true }) }) t.coord.telling) t.coord.telling
    telling_is b is = ap (λ (z : Coord). z.telling) part ∙ by b is
      where
        by : (z : Bool) → has_record (record p { confirmed = true }) ≡ z → (decide (record p { confirmed = true }) t.coord).part.telling
            ≡ cond z (put_uid u (record { root = root_of p.path; nodes = participants (record p { confirmed = true }) }) t.coord.telling)
            t.coord.telling
        by true some = ap (λ z. (cond {A = Coord} z (record r { telling = put_uid (actor p.path) i r.telling }) r).telling) some
            ∙ ap (put_uid (actor p.path) i) telling_same ∙ ap (λ z. put_uid z i t.coord.telling) acts_for
          where
            r : Coord
            r = on_root (root_of p.path) (root_after P)
                (on_doing (actor p.path) (λ (z : Doing). record z { took = participants P }) (ended (actor p.path) ending.Commit t.coord))
        by false none =
            ap (λ z. (cond {A = Coord} z (record r { telling = put_uid (actor p.path) i r.telling }) r).telling) none ∙ telling_same
          where
            r : Coord
            r = on_root (root_of p.path) (root_after P)
                (on_doing (actor p.path) (λ (z : Doing). record z { took = participants P }) (ended (actor p.path) ending.Commit t.coord))

    -- without a record no store prepared
    pub unrecorded : (n : ℕ) → has_record (record p { confirmed = true }) ≡ false → has p.prepared n ≡ true → ⊥
    unrecorded n none on = by p.prepared refl on
      where
        by : (ps : List ℕ) → p.prepared ≡ ps → has ps n ≡ true → ⊥
        by [] is z = cc z
        by (x ∷ ps) is z = let no_way : true ≡ false = sym (ap
            (λ (zs : List ℕ). not (is_empty zs) || (true && not (is_empty p.excluded && is_empty (included_of P)))) is) ∙ none in cc no_way

    abbrev rest : List Effect
    rest = says (actor p.path) body.Committed t.coord
        ++ map (decided_told (root_of p.path) (actor p.path) (record p { confirmed = true })) p.sent

    module _ (yes_record : has_record (record p { confirmed = true }) ≡ true) where
      abbrev put : Disk
      put = worked (PutIntent (actor p.path) i) d

      recs : (x : Uid) (j : Intent) → at_uid x (put_uid (actor p.path) i d.intents) ≡ Some j →
          (at_uid x d.intents ≡ Some j) ⊎ ((x ≡ u) × (j ≡ i))
      recs x j at_it =
          ⊎_elim (λ mine. inr (mine.0 ∙ acts_for, sym mine.1)) (λ old. inl old.1) (put_cases x (actor p.path) i j d.intents at_it)

      stays : (x : Uid) (j : Intent) → x ≢ u → at_uid x d.intents ≡ Some j → at_uid x (put_uid (actor p.path) i d.intents) ≡ Some j
      stays x j other at_it = put_other x (actor p.path) i d.intents (λ is. other (is ∙ acts_for)) ∙ at_it

      puts : (n : ℕ) → has p.prepared n ≡ true → at_uid u (put_uid (actor p.path) i d.intents) ≡ Some i
      puts n on = ap (λ z. at_uid z (put_uid (actor p.path) i d.intents)) (sym acts_for) ∙ put_same (actor p.path) i d.intents

      awaits : (x : Uid) (j : Intent) (n : ℕ) → at_uid x (put_uid (actor p.path) i d.intents) ≡ Some j → has j.nodes n ≡ true →
          (is_awaited_by n (at_uid x v.coord.telling) ≡ true)
          ⊎ ((at_uid x d.intents ≡ Some j) × (at_uid x v.coord.telling ≡ at_uid x t.coord.telling))
      awaits x j n at_it on = ⊎_elim
          (λ mine. inl (ap (λ m. is_awaited_by n (at_uid x m)) (telling_is true yes_record)
          ∙ ap (λ z. is_awaited_by n (at_uid z (put_uid u i t.coord.telling))) (mine.0 ∙ acts_for)
          ∙ ap (is_awaited_by n) (put_same u i t.coord.telling) ∙ ap (λ (z : Intent). has z.nodes n) mine.1 ∙ on))
          (λ old.
          inr (old.1, ap (at_uid x) (telling_is true yes_record) ∙ put_other x u i t.coord.telling (λ is. old.0 (is ∙ sym acts_for))))
          (put_cases x (actor p.path) i j d.intents at_it)

      stops : (how : Stop) → Known (halted e k (stopped how (PutIntent (actor p.path) i) d) M) →
          IsRight (halted e k (stopped how (PutIntent (actor p.path) i) d) M)
      stops Before z = (z, stop_core k d (Some t) M right.1 e)
      stops After z = decided_halt put v part refl recs stays puts awaits z
      stops (InPart which) z = (z, stop_core k d (Some t) M right.1 e)

      with_record : Walks Known e k (Do (PutIntent (actor p.path) i) ∷ rest) (Up Known k v) d M →
          Walks IsRight e k (Do (PutIntent (actor p.path) i) ∷ rest) (Up IsRight k v) d M
      with_record z = ((λ how. stops how (z.0 how)), decided_rest put v part refl recs stays puts awaits rest refl z.1)

    without_record : has_record (record p { confirmed = true }) ≡ false → Walks Known e k rest (Up Known k v) d M →
        Walks IsRight e k rest (Up IsRight k v) d M
    without_record none z = decided_rest d v part refl (λ x j at_it. inl at_it) (λ x j other at_it. at_it)
        (λ n on. absurd (unrecorded n none on)) (λ x j n at_it on. inr (at_it, ap (at_uid x) (telling_is false none))) rest refl z

    pub decided_walk : (outs : List Effect) → outs ≡ (decide (record p { confirmed = true }) t.coord).outs →
        Walks Known e k outs (Up Known k v) d M → Walks IsRight e k outs (Up IsRight k v) d M
    decided_walk outs are known = subst (λ es. Walks IsRight e k es (Up IsRight k v) d M) (sym are)
        (by (has_record P) refl (subst (λ es. Walks Known e k es (Up Known k v) d M) are known))
      where
        by : (b : Bool) → has_record (record p { confirmed = true }) ≡ b →
            Walks Known e k (cond b (Do (PutIntent (actor p.path) i) ∷ []) [] ++ says (actor p.path) body.Committed t.coord
            ++ map (decided_told (root_of p.path) (actor p.path) (record p { confirmed = true })) p.sent) (Up Known k v) d M →
            Walks IsRight e k (cond b (Do (PutIntent (actor p.path) i) ∷ []) [] ++ says (actor p.path) body.Committed t.coord
            ++ map (decided_told (root_of p.path) (actor p.path) (record p { confirmed = true })) p.sent) (Up IsRight k v) d M
        by true yes_record z = with_record yes_record z
        by false none z = without_record none z
