-- A question about an action, walked through at its coordinator.
use Rattle.arj_law_parts.proofs.Words
use Words.{◌≡◌, ◌≢◌, ◌⊎◌, ◌<◌, ℕ, ◌==◌, ◌&&◌, ◌||◌, [], ◌∷◌, Bool, true, false, Option, Some, None, refl, sym, ◌∙◌, ap, subst, inl, inr}
use Words.{⊎_elim, if◌then◌else◌, not, is_some, uid_cases, Uid, End, Kind, first_uid, Doing, doing_of, is_constituent_branch, is_kept_top}
use Words.{Disk, Intent, answer_query, answer_recorded, answer_decided, is_deferred, is_kept_commit, root_or_self, took_part, tell, Parts}
use Words.{at_uid, uid_number, Branch, at_place, branch_of, ended_so, has_end, is_open, is_open_branch, is_own, root_of}
use Words.{numbered, Post, Seen, is_constituent}
use Words.kind
use Words.ending
use Words.message
use Words.order
use Rattle.arj_law_disk_view.proofs.Terms
use Terms.{World, after, IsOver, is_gone, naming, never, never_some, some_is, put_same, put_other, bool_cases, test_cases, test_same}
use Terms.{falls_to, up, posted, Walks, Up, HasBegunHere, SeesRecords, KnowsKinds, KnowsCoord, IsOfKind, Kinds, IsFuture, SeesDisks}
use Terms.{SeesCoord, SeesNotes, IsSettled, IsSeenByDisks, ClaimsLast}
use Terms.machine
use Terms.mail
use Terms.disk
use Rattle.arj_law_disk.proofs.machine.Base.{and_right}
use Rattle.arj_law_disk_view.proofs.view
use view.{AckWalks.halts_again, AckWalks.open_root, DecidingSteps.ends_may_be_told, TellWalks.SerialOver}
use view.ActionAborts.{plain_over, serial_over}
use view.Frames.{node_here, says_seen, posts_seen, sends_seen}
use view.TopFrames.{apart_number, not_future}
use Rattle.arj_law_disk_view.specs.view.Coordinating.{QueriesAreAnswered}

module _ (x : ℕ) (tops : Kinds) (e k : ℕ) (d : Disk) (t : Parts) (from : ℕ) (act : Uid) (M : Seen) (kinds : KnowsKinds tops)
    (knows : KnowsCoord tops d.intents t.coord) (begun : HasBegunHere k t.coord act)
    (W : World) (sees : SeesDisks x tops W (up k d t M)) where
  abbrev P : Seen → Type 0
  P = IsSeenByDisks x tops

  records : SeesRecords k d.intents W.disk
  records = sees.records k (record { number = k; disk = d; live = Some t }) (node_here M k (record { number = k; disk = d; live = Some t }))

  notes : SeesNotes x d.intents t.coord W
  notes =
      sees.notes k (record { number = k; disk = d; live = Some t }) t (node_here M k (record { number = k; disk = d; live = Some t })) refl

  -- one told, of which the machine's world claims what is true
  told : (V : World) (root : Uid) (ack : Bool) (how : End) → ClaimsLast tops V from ack (Some (act, how)) →
      SeesDisks x tops V (up k d t M) → Walks P e k (tell root ack ((act, how) ∷ []) from ∷ []) (Up P k t) d M
  told V root ack how claim s = λ more quiet.
      let p : Post = record { from = k; to = from; message = message.Told (record { root = root; ack = ack; ends = (act, how) ∷ [] }) } in
      (V, says_seen x tops V (up k d t (posted p M)) (numbered e more) (posts_seen x tops V (up k d t M) p claim s))

  committed : (root : Uid) (ack : Bool) → disk.decided W.disk (uid_number act) ≡ true →
      Walks P e k (tell root ack ((act, ending.Commit) ∷ []) from ∷ []) (Up P k t) d M
  committed root ack done =
      let m : mail.Message = mail.ToldCommit (uid_number act) from in
      told (after W (machine.Send m)) root ack ending.Commit (inl (inl (inl refl)), λ a. inl refl)
      (sends_seen x tops W (up k d t M) m done refl sees)

  -- who isn't open is at its end
  settled : is_open act t.coord.tree ≡ false → (i : Intent) → at_uid act d.intents ≡ Some i → disk.decided W.disk (uid_number act) ≡ true
  settled closed i there =
      ⊎_elim (λ o. absurd (never o closed)) (λ (s : IsSettled act i t.coord.telling W). s.done) (notes.settled act i there)

  kept : (root : Uid) → took_part from (doing_of act t.coord) ≡ true →
      Walks P e k (tell root false ((act, ending.Commit) ∷ []) from ∷ []) (Up P k t) d M
  kept root took = by (doing_of act t.coord) refl took
    where
      by : (o : Option Doing) → doing_of act t.coord ≡ o → took_part from o ≡ true →
          Walks P e k (tell root false ((act, ending.Commit) ∷ []) from ∷ []) (Up P k t) d M
      by None is on = absurd (cc on)
      by (Some q) is on = ⊎_elim (λ done. committed root false done)
          (λ bare. told W root false ending.Commit (inl (inr bare), λ a. absurd (cc a)) sees) (notes.taken act q from is on)

  mine : SeesCoord x k d.inc tops t.coord W.disk
  mine =
      sees.coords k (record { number = k; disk = d; live = Some t }) t (node_here M k (record { number = k; disk = d; live = Some t })) refl

  opened : (u : Uid) (b : Branch) → branch_of u t.coord.tree ≡ Some b → b.ended ≡ None → is_open u t.coord.tree ≡ true
  opened u b found unended = ap is_open_branch found ∙ ap (λ (o : Option End). not (is_some o)) unended

  -- the root of a commit without a record, about which naming asks
  record IsLastRoot (r : Uid) : Type 0 where
    is : tops.root (uid_number act) ≡ uid_number r
    closed : is_open r t.coord.tree ≡ false
    past : IsFuture t.coord r → ⊥

  -- It has ended too: else naming is told that the action was committed.
  last_root : from ≡ naming → tops.is_top (uid_number act) ≡ true → W.disk.bare (uid_number act) ≡ true → is_open act t.coord.tree ≡ false →
      is_kept_commit from act t.coord ≡ false → (r : Uid) × IsLastRoot r
  last_root same top bare closed unkept = by (is_own act t.coord.tree) refl
    where
      -- of an earlier incarnation
      earlier : is_own act t.coord.tree ≡ false → (r : Uid) × IsLastRoot r
      earlier apart =
          let r = kinds.rooted act top in
          let own = kinds.own act r.0 top r.1 in
          let off : is_own r.0 t.coord.tree ≡ false = (λ i. (sym own.0 i == t.coord.tree.node) && (sym own.1 i == t.coord.tree.inc))
          ∙ apart in (
            r.0,
            record {
              is = r.1;
              closed = ap (λ b. is_open_branch (if b then at_place (let w = r.0 in w.num) t.coord.tree.branches else None)) off;
              past = later r.0 own.1;
            },
          )
        where
          later : (r : Uid) → act.inc ≡ r.inc → IsFuture t.coord r → ⊥
          later r inc (inl p) = never ((λ i. ((begun.here ∙ sym mine.node) i == t.coord.tree.node) && ((inc ∙ p.0) i == t.coord.tree.inc))
              ∙ (λ i. test_same t.coord.tree.node i && test_same t.coord.tree.inc i)) apart
          later r inc (inr above) = begun.past (inr (subst (λ n. t.coord.tree.inc < n) (sym inc) above))

      by_kind : (z : Branch) → branch_of act t.coord.tree ≡ Some z → (kd : Kind) → z.kind ≡ kd → IsOfKind tops act kd z.path →
          (r : Uid) × IsLastRoot r
      by_kind z there kind.Nested kd p = absurd (never top p.0)
      by_kind z there kind.Serial kd p = absurd (never top p.0)
      by_kind z there kind.Top kd p =
          (act, record { is = knows.root act z there top ∙ ap (λ us. uid_number (first_uid us)) p.2; closed = closed; past = begun.past })
      by_kind z there kind.Independent kd p =
          (act, record { is = knows.root act z there top ∙ ap (λ us. uid_number (first_uid us)) p.2; closed = closed; past = begun.past })
      by_kind z there kind.Constituent kd p =
          let q = knows.at_work act z there in
          let n = mine.bare act z q.0 there q.1 bare in
          let kept : is_open (root_of z.path) t.coord.tree ≡ true → is_kept_commit from act t.coord ≡ true =
          (λ o. (λ i. (is_constituent_branch (there i) && ended_so ending.Commit (there i))
          && (is_open (root_or_self act (there i)) t.coord.tree && took_part from (q.1 i)))
          ∙ (λ i. (is_constituent (kd i) && has_end ending.Commit (n.committed i)) && (o i && order.has (let r = q.0 in r.took) (same i)))
          ∙ n.named) in
          let stem = knows.stem act z there (ap is_constituent kd) in (
            root_of z.path,
            record {
              is = knows.root act z there top;
              closed = falls_to (is_open (root_of z.path) t.coord.tree) (λ o. never (kept o) unkept);
              past = not_future (root_of z.path) t.coord stem.0 stem.1;
            },
          )

      by : (b : Bool) → is_own act t.coord.tree ≡ b → (r : Uid) × IsLastRoot r
      by false apart = earlier apart
      by true own = let z = begun.there own in by_kind z.0 z.1 (let y = z.0 in y.kind) refl (knows.kind act z.0 z.1)

  -- with its root over it may be told so
  bare_told : (root : Uid) → is_open act t.coord.tree ≡ false → ((i : Intent) → at_uid act d.intents ≡ Some i →
      order.has i.nodes from ≡ false) → tops.is_top (uid_number act) ≡ true → W.disk.bare (uid_number act) ≡ true → (r : Uid) → IsLastRoot r
      → Walks P e k (tell root false ((act, ending.Abort) ∷ []) from ∷ []) (Up P k t) d M
  bare_told root closed unlisted top bare r last =
      let m : mail.Message = mail.ToldAbort (uid_number act) from in
      told (after V2 (machine.Send m)) root false ending.Abort (inl (top, inl (inl refl)), λ a. absurd (cc a))
      (sends_seen x tops V2 (up k d t M) m
      (ends_may_be_told k V1 act from d.intents records1 begun.here (λ i there. (unlisted i there, settled closed i there))
      (λ b. subst (λ n. IsOver V2.disk n) (sym (ap (λ f. f (uid_number act)) sees.fixed.root ∙ last.is)) over)) refl seen2)
    where
      V1 : World
      V1 = after W (machine.Halt (uid_number r))

      V2 : World
      V2 = after V1 (machine.Halt (uid_number act))

      r_here : r.node ≡ k
      r_here = sym (kinds.own act r top last.is).0 ∙ begun.here

      seen1 : SeesDisks x tops (after W (machine.Halt (uid_number r))) (up k d t M)
      seen1 = halts_again x k tops W M d t r sees r_here last.closed last.past

      records1 : SeesRecords k d.intents V1.disk
      records1 =
          seen1.records k (record { number = k; disk = d; live = Some t }) (node_here M k (record { number = k; disk = d; live = Some t }))

      seen2 : SeesDisks x tops (after (after W (machine.Halt (uid_number r))) (machine.Halt (uid_number act))) (up k d t M)
      seen2 = halts_again x k tops V1 M d t act seen1 begun.here closed begun.past

      gone_root : act ≢ r → is_gone (V2.disk.stage (uid_number r)) ≡ true
      gone_root other = ap is_gone (put_other (uid_number act) disk.Gone V1.disk.stage (uid_number r)
          (apart_number act r (λ e. other (sym e))) ∙ put_same (uid_number r) disk.Gone W.disk.stage)

      over : IsOver V2.disk (uid_number r)
      over = ⊎_elim
          (λ (same : act ≡ r). subst (λ a. IsOver V2.disk (uid_number a)) same (plain_over x k tops d t t.coord M V2 seen2 kinds act
          (ap is_gone (put_same (uid_number act) disk.Gone V1.disk.stage)) (sees.whole.core.bare.no_record (uid_number act) bare) top))
          (λ (other : act ≢ r). let sort = kinds.serial act r top last.is other in
          let o : SerialOver V2.disk r (is_deferred r d.intents) = serial_over x k tops d t t.coord M V2 seen2 kinds r r_here
          (gone_root other) sort.1 sort.0
          (λ w o top root apart. let q = open_root tops d.intents t.coord w r knows o top root apart in
          never (opened r q.branch q.found q.unended) last.closed) knows.rooted in o.over)
          (uid_cases act r)

  -- an abort, by what the action is
  aborted : (root : Uid) → is_open act t.coord.tree ≡ false → is_kept_commit from act t.coord ≡ false →
      is_deferred act d.intents from ≡ false → ((i : Intent) → at_uid act d.intents ≡ Some i → order.has i.nodes from ≡ false) →
      Walks P e k (tell root false ((act, ending.Abort) ∷ []) from ∷ []) (Up P k t) d M
  aborted root closed unkept free unlisted = by (bool_cases (tops.is_top (uid_number act))) (bool_cases (tops.is_serial (uid_number act)))
    where
      V : World
      V = after W (machine.Halt (uid_number act))

      seen : SeesDisks x tops (after W (machine.Halt (uid_number act))) (up k d t M)
      seen = halts_again x k tops W M d t act sees begun.here closed begun.past

      top_told : tops.is_top (uid_number act) ≡ true →
          (W.disk.bare (uid_number act) ≡ true → IsOver (after W (machine.Halt (uid_number act))).disk (W.disk.root (uid_number act))) →
          Walks P e k (tell root false ((act, ending.Abort) ∷ []) from ∷ []) (Up P k t) d M
      top_told top over =
          let m : mail.Message = mail.ToldAbort (uid_number act) from in
          told (after (after W (machine.Halt (uid_number act))) (machine.Send m)) root false ending.Abort
          (inl (top, inl (inl refl)), λ a. absurd (cc a))
          (sends_seen x tops (after W (machine.Halt (uid_number act))) (up k d t M) m (ends_may_be_told k W act from d.intents records
          begun.here (λ i there. (unlisted i there, settled closed i there)) over) refl seen)

      by_naming : tops.is_top (uid_number act) ≡ true → (from ≡ naming) ⊎ ((from == naming) ≡ false) → (W.disk.bare (uid_number act) ≡ true)
          ⊎ (W.disk.bare (uid_number act) ≡ false) → Walks P e k (tell root false ((act, ending.Abort) ∷ []) from ∷ []) (Up P k t) d M
      by_naming top same (inr plain) = top_told top (λ bare. absurd (never bare plain))
      by_naming top (inl same) (inl bare) = let r = last_root same top bare closed unkept in bare_told root closed unlisted top bare r.0 r.1
      by_naming top (inr other) (inl bare) = told W root false ending.Abort
          (inl (top, inr (bare, λ same. never (ap (λ n. n == naming) same ∙ test_same naming) other)), λ a. absurd (cc a)) sees

      serial_told : tops.is_top (uid_number act) ≡ false → tops.is_serial (uid_number act) ≡ true →
          Walks P e k (tell root false ((act, ending.Abort) ∷ []) from ∷ []) (Up P k t) d M
      serial_told no_top serial =
          let m : mail.Message = mail.ToldSerial (uid_number act) from in
          let over : SerialOver (after W (machine.Halt (uid_number act))).disk act (is_deferred act d.intents) = serial_over x k tops d t
          t.coord M (after W (machine.Halt (uid_number act))) seen kinds act begun.here
          (ap is_gone (put_same (uid_number act) disk.Gone W.disk.stage)) serial no_top
          (λ w o top root apart. let r = open_root tops d.intents t.coord w act knows o top root apart in
          never (opened act r.branch r.found r.unended) closed) knows.rooted in
          told (after (after W (machine.Halt (uid_number act))) (machine.Send m)) root false ending.Abort
          (inr (inl (over.serial, inl refl)), λ a. absurd (cc a))
          (sends_seen x tops (after W (machine.Halt (uid_number act))) (up k d t M) m (over.over, over.unlisted from free) refl seen)

      by : (tops.is_top (uid_number act) ≡ true) ⊎ (tops.is_top (uid_number act) ≡ false) → (tops.is_serial (uid_number act) ≡ true)
          ⊎ (tops.is_serial (uid_number act) ≡ false) → Walks P e k (tell root false ((act, ending.Abort) ∷ []) from ∷ []) (Up P k t) d M
      by (inl top) s = by_naming top (test_cases from naming) (bool_cases (W.disk.bare (uid_number act)))
      by (inr no_top) (inl serial) = serial_told no_top serial
      by (inr no_top) (inr plain) = told W root false ending.Abort (inr (inr (no_top, plain)), λ a. absurd (cc a)) sees

  decided_answer : is_open act t.coord.tree ≡ false → is_deferred act d.intents from ≡ false → ((i : Intent) →
      at_uid act d.intents ≡ Some i → order.has i.nodes from ≡ false) → Walks P e k (answer_decided from act t.coord) (Up P k t) d M
  decided_answer closed free unlisted = by (is_kept_commit from act t.coord) refl
    where
      root : Uid
      root = root_or_self act (branch_of act t.coord.tree)

      by : (b : Bool) → is_kept_commit from act t.coord ≡ b →
          Walks P e k (if b then tell (root_or_self act (branch_of act t.coord.tree)) false ((act, ending.Commit) ∷ []) from
          ∷ [] else tell (root_or_self act (branch_of act t.coord.tree)) false ((act, ending.Abort) ∷ []) from ∷ []) (Up P k t) d M
      by true is = kept (root_or_self act (branch_of act t.coord.tree)) (and_right (is_open (root_or_self act (branch_of act t.coord.tree))
          t.coord.tree) (took_part from (doing_of act t.coord)) (and_right (is_kept_top act t.coord)
          (is_open (root_or_self act (branch_of act t.coord.tree)) t.coord.tree && took_part from (doing_of act t.coord)) is))
      by false is = aborted (root_or_self act (branch_of act t.coord.tree)) closed is free unlisted

  recorded_answer : is_open act t.coord.tree ≡ false → is_deferred act d.intents from ≡ false → (o : Option Intent) →
      at_uid act d.intents ≡ o → Walks P e k (answer_recorded from act t.coord o) (Up P k t) d M
  recorded_answer closed free None is = decided_answer closed free (λ i there. absurd (never_some there is))
  recorded_answer closed free (Some i) is = by (order.has i.nodes from) refl
    where
      by : (b : Bool) → order.has i.nodes from ≡ b →
          Walks P e k (if b then tell i.root true ((act, ending.Commit) ∷ []) from ∷ [] else answer_decided from act t.coord) (Up P k t) d M
      by true on = committed i.root true (settled closed i is)
      by false off = decided_answer closed free (λ j there. subst (λ (y : Intent). order.has y.nodes from ≡ false) (some_is is there) off)

  pub query_walks : Walks P e k (answer_query from act d.intents t.coord) (Up P k t) d M
  query_walks = by (is_open act t.coord.tree) refl (is_deferred act d.intents from) refl
    where
      by : (b : Bool) → is_open act t.coord.tree ≡ b → (c : Bool) → is_deferred act d.intents from ≡ c →
          Walks P e k (if b || c then [] else answer_recorded from act t.coord (at_uid act d.intents)) (Up P k t) d M
      by true is c free = (W, sees)
      by false is true free = (W, sees)
      by false is false free = recorded_answer is free (at_uid act d.intents) refl

pub queries_are_answered : QueriesAreAnswered
queries_are_answered x tops e k d t from act M kinds knows begun W sees = query_walks x tops e k d t from act M kinds knows begun W sees
