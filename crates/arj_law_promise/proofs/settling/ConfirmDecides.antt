-- A coordinator decides a top that naming confirmed: where naming was asked by marks there is a record, and naming's Yes was heard.
use Rattle.arj_law_parts.proofs.Words
use Words.{◌≡◌, ◌≢◌, ◌⊎◌, ◌≤◌, ◌∙◌, ◌++◌, ◌||◌, ℕ, Bool, true, false, cond, not, List, [], ◌∷◌, map, Some, refl, sym, ap, subst, inl, inr}
use Words.{⊎_elim, arith, is_some, AllByRecursion, Ask, Head, Uid, asks, actor, Confirming, Machine, Plan, has_record, included_of}
use Words.{participants, Committing, Doing, doing_of, After, Before, Disk, Do, Effect, InPart, Intent, PutIntent, Stop}
use Words.{is_prepared, stopped, worked, decide, decided_told, say_for, says, tell, Parts, at_uid, has, put_uid, Node, Branch, branch_of}
use Words.{is_own, root_of, Post, Seen, is_empty}
use Words.ask
use Words.body
use Words.ending
use Rattle.arj_law_promise.proofs.Terms
use Terms.{doing_by, put_cases, put_other, put_same, up, Up, Walks, halted, book, is_decided, IsPart, KnowsParts, asks_part, HasAcked}
use Terms.{WasRecorded, records_in, some_is}
use Rattle.arj_law_lock_view.specs.facts.Parted.{IsSought}
use Rattle.arj_law_promise.proofs.settling
use settling.{ConfirmCases.IsMute, ConfirmParts.stop_confirms, Cores.IsDone, Cores.Recorded, Steps.Either, Steps.step_halt, Steps.step_walk}
use settling.ConfirmCoords.{SaysSo, acked_message, memory_on, milds, none_done, quiet_so}
use settling.ConfirmKnown.{AllKnown, IsNaming, parted}
use settling.ConfirmSteps.{IsSound, node_still, step_confirms}
use settling.Confirms.{AsksConfirm, AsksMarked, IsConfirming, SaidConfirmed, has_marks, to_records}
use settling.Milds.{here_is, now_cases, the_node, was_cases}
use settling.Trails.{FitsSo, Went, mild_decides}
use Rattle.arj_law_promise.proofs.settling.Decides as decides

never : {P : Type 0} {b : Bool} → b ≡ true → b ≡ false → P
never {P} {b} holds fails = let no_way : true ≡ false = sym holds ∙ fails in absurd (cc no_way)

module _ (k : ℕ) (d : Disk) (t : Parts) (M : Seen) (right : IsNaming (up k d t M)) (e : ℕ) (u : Uid) (q : Doing) (p : Plan)
    (found : doing_of u t.coord ≡ Some q) (now : q.now ≡ Committing (Confirming p)) (said : SaidConfirmed M.sent u) where
  abbrev Start : Seen
  Start = up k d t M

  abbrev P : Plan
  P = record p { confirmed = true }

  abbrev i : Intent
  i = record { root = root_of p.path; nodes = participants (record p { confirmed = true }) }

  its_here : Start.nodes k ≡ Some (the_node k d (Some t))
  its_here = here_is k d (Some t) M

  acts_for : actor p.path ≡ u
  acts_for = decides.acts_for k d t M right.0.0 e u q p found now

  home : u.node ≡ k
  home = decides.home k d t M right.0.0 e u q p found now

  undone : IsDone Start u → ⊥
  undone = decides.undone k d t M right.0.0 e u q p found now

  -- nothing of it was acknowledged
  unacked : HasAcked M.sent u 1 → ⊥
  unacked a =
      decides.unacked k d t M right.0.0 e u q p found now 1 (a.post, a.posted, a.from, acked_message (let z = a.post in z.message) u a.acks)

  -- without a record naming was asked about nothing by marks
  unmarked : has_record (record p { confirmed = true }) ≡ false → AsksMarked M.sent u → ⊥
  unmarked none asked = by part
    where
      c : AsksConfirm M.sent u
      c = asked.0

      parts : KnowsParts M.sent t.coord
      parts = let z = parted Start right.0 in (z.coords k (the_node k d (Some t)) t its_here refl).0

      own : is_own (actor (let h = asked.0.head in h.path)) t.coord.tree ≡ true
      own = ap (λ x. is_own x t.coord.tree) asked.0.by ∙ (doing_by u t.coord q found).0

      part : IsPart t.coord (actor (let h = asked.0.head in h.path)) (let z = asked.0.post in
          z.to) (ask.Confirm asked.0.grants asked.0.excluded asked.0.included)
      part = parts asked.0.post asked.0.head (ask.Confirm asked.0.grants asked.0.excluded asked.0.included) asked.0.posted asked.0.asking
          refl own

      by : IsPart t.coord (actor (let h = asked.0.head in h.path)) (let z = asked.0.post in
          z.to) (ask.Confirm asked.0.grants asked.0.excluded asked.0.included) → ⊥
      by (inl s) =
          let same : s.doing ≡ q = some_is (sym s.works ∙ ap (λ x. doing_of x t.coord) asked.0.by ∙ found) in
          let machine : s.machine ≡ Confirming p = machine_is (sym s.now ∙ ap (λ (z : Doing). z.now) same ∙ now) in
          let f : IsSought (Confirming p) (let z = asked.0.post in
          z.to) (ask.Confirm asked.0.grants asked.0.excluded asked.0.included) = subst (λ x. IsSought x (let z = asked.0.post in
          z.to) (ask.Confirm asked.0.grants asked.0.excluded asked.0.included)) machine s.sought in
          let one : asked.0.excluded ≡ p.excluded = cc f.1 in
          let two : asked.0.included ≡ included_of p = cc f.1 in
          recorded_so p.prepared
          (subst (λ x. has_marks x (included_of p) ≡ true) one (subst (λ x. has_marks asked.0.excluded x ≡ true) two asked.1))
        where
          machine_is : {x y : Machine} → Committing x ≡ Committing y → x ≡ y
          machine_is z = cc z

          recorded_so : (xs : List ℕ) → has_marks p.excluded (included_of p) ≡ true → ⊥
          recorded_so xs marks = never (late (not (is_empty p.prepared)) (has_marks p.excluded (included_of p)) marks) none
            where
              late : (a b : Bool) → b ≡ true → (a || b) ≡ true
              late true b z = refl
              late false b z = z
      by (inr h) = never (ap (λ (z : Branch). is_some z.ended) (some_is (sym (decides.there k d t M right.0.0 e u q p found now)
          ∙ ap (λ x. branch_of x t.coord.tree) (sym asked.0.by) ∙ h.found)) ∙ h.ended) (decides.opened k d t M right.0.0 e u q p found now)

  -- ---- what is said and sent

  abbrev U : Uid → Type 0
  U x = x ≡ u

  abbrev Sends : Post → Type 0
  Sends z = IsMute z.message

  module _ (c : Disk) where
    abbrev Is : Disk → Type 0
    Is b = b ≡ c

    abbrev Fits : Effect → Type 0
    Fits = FitsSo k M (SaysSo U M) Sends (quiet_so U M) (tt, tt) Is

    fits_both : (xs ys : List Effect) → AllByRecursion Fits xs → AllByRecursion Fits ys → AllByRecursion Fits (xs ++ ys)
    fits_both [] ys a b = b
    fits_both (x ∷ xs) ys a b = (a.0, fits_both xs ys a.1 b)

    fits_says : AllByRecursion Fits (says (actor p.path) body.Committed t.coord)
    fits_says = subst (λ o. AllByRecursion Fits (say_for body.Committed o)) (sym (ap (λ z. doing_of z t.coord) acts_for ∙ found))
        ((decides.its_label k d t M right.0.0 e u q p found now, tt), tt)

    fits_tolds : (ns : List ℕ) → AllByRecursion Fits (map (decided_told (root_of p.path) (actor p.path) (record p { confirmed = true })) ns)
    fits_tolds [] = tt
    fits_tolds (n ∷ ns) = (one (has (participants P) n), fits_tolds ns)
      where
        one : (b : Bool) → Fits (cond b (tell (root_of p.path) (has_record (record p { confirmed = true }))
            ((actor p.path, ending.Commit) ∷ []) n) (tell (root_of p.path) false ((actor p.path, ending.Abort) ∷ []) n))
        one true = ((λ h a z part. cc z), ((λ a z. cc z), refl))
        one false = ((λ h a z part. cc z), ((λ a z. cc z), refl))

    fits : AllByRecursion Fits (says (actor p.path) body.Committed t.coord
        ++ map (decided_told (root_of p.path) (actor p.path) (record p { confirmed = true })) p.sent)
    fits = fits_both (says (actor p.path) body.Committed t.coord)
        (map (decided_told (root_of p.path) (actor p.path) (record p { confirmed = true })) p.sent) fits_says (fits_tolds p.sent)

    -- ---- with this on the disk

    module _ (v : Parts) (same : v.naming ≡ t.naming) (inc : (let x = v.coord in let z = x.tree in z.inc)
        ≡ (let x = t.coord in let z = x.tree in z.inc)) (names : c.names ≡ d.names) (disk_inc : c.inc ≡ d.inc)
        (recs : (x : Uid) (j : Intent) → at_uid x c.intents ≡ Some j → (at_uid x d.intents ≡ Some j) ⊎ (x ≡ u))
        (stays : (x : Uid) (j : Intent) → x ≢ u → at_uid x d.intents ≡ Some j → at_uid x c.intents ≡ Some j)
        (puts : AsksMarked M.sent u → (j : Intent) × (at_uid u c.intents ≡ Some j)) where
      module _ (Z : Seen) (w : Went k M (SaysSo U M) Sends (Either Is v) Z) where
        disk_is : w.disk ≡ c
        disk_is = w.fits.0

        sound : (x : Uid) → x ≡ u → IsSound M Z x
        sound x is = subst (IsSound M Z) (sym is) (λ asked. (
          unacked,
          (
            inl (to_records Z u (
              the_node k w.disk w.live,
              (puts asked).0,
              ap Z.nodes home ∙ w.here,
              ap (λ (z : Disk). at_uid u z.intents) disk_is ∙ (puts asked).1,
            )),
            (said.0, w.on said.0 said.1, said.2, said.3, said.4),
          ),
        ))

        decides_so : (x : Uid) → is_decided (book Z.lines) x ≡ true → IsDone Start x ⊎ IsSound M Z x
        decides_so x on = ⊎_elim (λ old. inl (inl old)) (λ new. inr (sound x new))
            (mild_decides U M.lines w.more (milds U M w.more w.said_so) x (subst (λ ls. is_decided (book ls) x ≡ true) w.lines on))

        recorded : (x : Uid) → Recorded Z x → Recorded Start x ⊎ IsSound M Z x
        recorded x (a, j, is, at_it) = ⊎_elim
            (λ mine. ⊎_elim (λ old. inl (the_node k d (Some t), j, ap Start.nodes mine.0 ∙ its_here, old)) (λ new. inr (sound x new))
            (recs x j (ap (λ (b : Disk). at_uid x b.intents) (sym disk_is)
            ∙ ap (λ (z : Node). let b = z.disk in at_uid x b.intents) (sym mine.1) ∙ at_it)))
            (λ other. inl (a, j, other.1, at_it))
            (now_cases k d (Some t) M (SaysSo U M) Sends (Either Is v) Z w x.node a is)

        records_on : (x : Uid) → Recorded Start x → WasRecorded (records_in Z.nodes) Z.sent x
        records_on x (a, j, is, at_it) = inl (to_records Z x (⊎_elim
            (λ mine. (
              the_node k w.disk w.live,
              j,
              ap Z.nodes mine.0 ∙ w.here,
              ap (λ (b : Disk). at_uid x b.intents) disk_is ∙ stays x j (λ one. undone (inr (
                a,
                j,
                ap (λ (z : Uid). Start.nodes z.node) (sym one) ∙ is,
                ap (λ z. at_uid z (let b = a.disk in b.intents)) (sym one) ∙ at_it,
              ))) (ap (λ (z : Node). let b = z.disk in at_uid x b.intents) (sym mine.1) ∙ at_it),
            ))
            (λ other. (a, j, other.1, at_it))
            (was_cases k d (Some t) M (SaysSo U M) Sends (Either Is v) Z w x.node a is)))

        silent : (z : Post) → Sends z → (h : Head) (a : Ask) → asks z.message ≡ Some (h, a) → asks_part a ≡ true → IsDone Z (actor h.path) →
            ⊥
        silent z so h a is part done = so.0 h a is part

        decided_confirms : IsConfirming Z
        decided_confirms = step_confirms k d (Some t) M (SaysSo U M) Sends (Either Is v) Z w right.1 (record {
          decides = decides_so;
          recorded = recorded;
          stays = records_on;
          clean = λ before line behind n x is says_it on. none_done U M w.more before line behind n x w.said_so is says_it;
          asks = silent;
          apart = λ other z so a is. so.1.0 a is;
          here = λ one node. node_still k d (Some t) M (SaysSo U M) Sends (Either Is v) Z w decides_so recorded silent (λ z so. so.1.1)
              (λ z so a is. so.1.0 a is) (low d.inc (let z = w.disk in z.inc) (ap (λ (z : Disk). z.inc) disk_is ∙ disk_inc))
              (λ x on. ap (is_prepared x) (sym (ap (λ (z : Disk). z.names) disk_is ∙ names)) ∙ on)
              (memory_on k d t M right e v same inc w.live w.fits.1) node;
        })
          where
            low : (a b : ℕ) → b ≡ a → a ≤ b
            low a b is = omega (arith, is)

      decided_rest : Walks AllKnown e k (says (actor p.path) body.Committed t.coord
          ++ map (decided_told (root_of p.path) (actor p.path) (record p { confirmed = true })) p.sent) (Up AllKnown k v) c M
          → Walks IsNaming e k (says (actor p.path) body.Committed t.coord
          ++ map (decided_told (root_of p.path) (actor p.path) (record p { confirmed = true })) p.sent) (Up IsNaming k v) c M
      decided_rest known = step_walk AllKnown IsConfirming k M (SaysSo U M) Sends (quiet_so U M) (tt, tt) Is v e (says (actor p.path)
          body.Committed t.coord ++ map (decided_told (root_of p.path) (actor p.path) (record p { confirmed = true })) p.sent) c fits refl
          (λ Z its w. decided_confirms Z w) known

      decided_halt : AllKnown (halted e k c M) → IsNaming (halted e k c M)
      decided_halt known = step_halt AllKnown IsConfirming k M (SaysSo U M) Sends (quiet_so U M) (tt, tt) Is v e c refl
          (λ Z its w. decided_confirms Z w) known

  -- ---- both ways

  module _ (v : Parts) (same : v.naming ≡ t.naming)
      (inc : (let x = v.coord in let z = x.tree in z.inc) ≡ (let x = t.coord in let z = x.tree in z.inc)) where
    abbrev put : Disk
    put = worked (PutIntent (actor p.path) i) d

    recs : (x : Uid) (j : Intent) → at_uid x (put_uid (actor p.path) i d.intents) ≡ Some j → (at_uid x d.intents ≡ Some j) ⊎ (x ≡ u)
    recs x j at_it = ⊎_elim (λ mine. inr (mine.0 ∙ acts_for)) (λ old. inl old.1) (put_cases x (actor p.path) i j d.intents at_it)

    stays_on : (x : Uid) (j : Intent) → x ≢ u → at_uid x d.intents ≡ Some j → at_uid x (put_uid (actor p.path) i d.intents) ≡ Some j
    stays_on x j other at_it = put_other x (actor p.path) i d.intents (λ is. other (is ∙ acts_for)) ∙ at_it

    puts_it : AsksMarked M.sent u → (j : Intent) × (at_uid u (put_uid (actor p.path) i d.intents) ≡ Some j)
    puts_it asked = (i, ap (λ z. at_uid z (put_uid (actor p.path) i d.intents)) (sym acts_for) ∙ put_same (actor p.path) i d.intents)

    stops : (how : Stop) → AllKnown (halted e k (stopped how (PutIntent (actor p.path) i) d) M) →
        IsNaming (halted e k (stopped how (PutIntent (actor p.path) i) d) M)
    stops Before z = (z, stop_confirms k d (Some t) M right.1 e)
    stops After z = decided_halt put v same inc refl refl recs stays_on puts_it z
    stops (InPart which) z = (z, stop_confirms k d (Some t) M right.1 e)

    pub decided_naming : (outs : List Effect) → outs ≡ (decide (record p { confirmed = true }) t.coord).outs →
        Walks AllKnown e k outs (Up AllKnown k v) d M → Walks IsNaming e k outs (Up IsNaming k v) d M
    decided_naming outs are known = subst (λ es. Walks IsNaming e k es (Up IsNaming k v) d M) (sym are)
        (by (has_record P) refl (subst (λ es. Walks AllKnown e k es (Up AllKnown k v) d M) are known))
      where
        by : (b : Bool) → has_record (record p { confirmed = true }) ≡ b →
            Walks AllKnown e k (cond b (Do (PutIntent (actor p.path) i) ∷ []) [] ++ says (actor p.path) body.Committed t.coord
            ++ map (decided_told (root_of p.path) (actor p.path) (record p { confirmed = true })) p.sent) (Up AllKnown k v) d M
            → Walks IsNaming e k (cond b (Do (PutIntent (actor p.path) i) ∷ []) [] ++ says (actor p.path) body.Committed t.coord
            ++ map (decided_told (root_of p.path) (actor p.path) (record p { confirmed = true })) p.sent) (Up IsNaming k v) d M
        by true yes_record z = ((λ how. stops how (z.0 how)), decided_rest put v same inc refl refl recs stays_on puts_it z.1)
        by false none z = decided_rest d v same inc refl refl (λ x j at_it. inl at_it) (λ x j other at_it. at_it)
            (λ asked. absurd (unmarked none asked)) z
