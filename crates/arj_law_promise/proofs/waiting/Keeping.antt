-- What is known of whoever waits is kept by each handler, where an include asks for a store of the header.
use Rattle.arj_law_parts.proofs.Words
use Words.{◌≡◌, ◌≤◌, ◌+◌, arith, ℕ, true, List, [], ◌∷◌, length, Some, ◌&&◌, nat_le, AllByRecursion, list_all, and_parts, leb-true}
use Words.{nat_tests, Header, ObjectLine, again_all, begin_action, Disk, Effect, tick_outs, Parts, with_coord, acts, parent_of, parts_in}
use Words.{restart_outs, Seen, is_serial}
use Rattle.arj_law_promise.proofs.Terms
use Terms.{HeaderFits, ObjectLineInForm, Keeps, KeepsAsked, given, Up, Walks, keeps_asked, all_keep, IsGood, keeps_given, kept_both}
use Terms.{BindsAreKnown, HasObject, AreAddressed, IsNode, ObjectsAreHeld, RequestsAreKnown, requests_keep, asked_both, EndsArePast}
use Terms.{past_keep, HaveForms, WereAsked, kept_forms, AreSo, kind_of, ArePastWriters, AreSince, given_more}
use Rattle.arj_journal.specs.declared.limits.TheConstants.{SERVERS, STORES}
use Rattle.arj_law_disk_view.proofs.running.EntryKeeps.{keeps_entries}
use Rattle.arj_law_disk_view.specs.running.Entries.{HaveEntries}
use Rattle.arj_law_lock_view.proofs.facts.{Entries.entries_keep, GoodNaming.objects_keep as objects_held}
use Rattle.arj_law_parts.proofs.moves.Together.{walks_each}
use Rattle.arj_law_lock_view.proofs.facts.Homes.{home_keep}
use Rattle.arj_law_lock_view.specs.facts.Homes.{RequestsAreHome}
use Rattle.arj_law_promise.proofs.waiting.{AskedRuns.asked_given, Since.since_given, WriterRuns.writers_given}
use Rattle.arj_law_promise.specs.waiting.{Waits.AskersAreKnown, Waits.HandlersKeepWaits, Waits.ObjectsAreKnown, Writers.WritersArePast}
use Rattle.arj_law_runs.proofs.addresses.Runs.{so_kept}
use Rattle.arj_law_runs.specs.addresses.Addresses.{AreOf, LineOf}
use Rattle.arj_law_serial.proofs.whole.CalledWalks.{calls_keep}
use Rattle.arj_law_serial.specs.whole.Called.{CallsAreOfHeader}
use Rattle.arj_text.specs.Fields.{NodesInForm, is_distinct}

-- ---- addresses

module _ (hd : Header) (form : HeaderFits hd) where
  abbrev Fits : ℕ → Type 0
  Fits n = IsNode hd n

  fits_one : Fits 1
  fits_one = let n = form.nodes.0 in grind (arith, nat_tests, n)

  listed : (ns : List ℕ) → list_all (λ m. nat_le 1 m && nat_le m hd.nodes) ns ≡ true → AreOf Fits ns
  listed [] are = tt
  listed (n ∷ ns) are = let p = and_parts (nat_le 1 n && nat_le n hd.nodes) (list_all (λ m. nat_le 1 m && nat_le m hd.nodes) ns) are in
      (p.0, listed ns p.1)

  in_form : (most : ℕ) (ns : List ℕ) → NodesInForm hd.nodes most ns → AreOf Fits ns × (1 ≤ length ns)
  in_form most ns are =
      let p = and_parts (nat_le 1 (length ns) && nat_le (length ns) most)
      (list_all (λ m. nat_le 1 m && nat_le m hd.nodes) ns && is_distinct ns) are in (
        listed ns (and_parts (list_all (λ m. nat_le 1 m && nat_le m hd.nodes) ns) (is_distinct ns) p.1).0,
        leb-true 1 (length ns) (and_parts (nat_le 1 (length ns)) (nat_le (length ns) most) p.0).0,
      )

  lines : (os : List ObjectLine) → AllByRecursion (ObjectLineInForm hd.nodes) os → AllByRecursion (LineOf Fits) os
  lines [] all = tt
  lines (o ∷ os) all = let f = all.0 in let s = in_form SERVERS o.servers f.servers in
      ((s.0, (in_form STORES o.stores f.stores).0, s.1), lines os all.1)

  addressed : KeepsAsked hd (AreAddressed hd)
  addressed = so_kept Fits fits_one hd (λ s is. is) (lines hd.objects form.objects.0)

-- ---- objects

-- one for each of many
keeps_each : {A : Type 0} (hd : Header) (P : A → Seen → Type 0) → ((x : A) → Keeps hd (P x)) → Keeps hd (λ M. (x : A) → P x M)
keeps_each {A} hd P each = record {
  quiet = λ e bs M quiet p x. (each x).quiet e bs M quiet (p x);
  stop = λ e k d live M p x. (each x).stop e k d live M (p x);
  message =
      λ e k d t v from m outs M p there meant is. many e k outs v d M (λ x. (each x).message e k d t v from m outs M (p x) there meant is);
  act = λ e k d t i M is free p. let did = acts i d.intents t.coord in
      many e k did.outs (with_coord t did.part) d M (λ x. (each x).act e k d t i M is free (p x));
  begin = λ e k d t l how parent M new may free p.
      let did = begin_action l how parent (parent_of parent t.coord) t.coord in
      many e k did.outs (with_coord t did.part) d (given l (record { node = k; serial = is_serial how }) M)
      (λ x. (each x).begin e k d t l how parent M new may free (p x));
  tick = λ e k d t M p. many e k (tick_outs (record { number = k; disk = d; live = Some t }) t)
      (with_coord t (again_all t.coord.doings t.coord).part) d M (λ x. (each x).tick e k d t M (p x));
  restart = λ e k d M p. many e k (restart_outs hd k (d.inc + 1) d) (parts_in k (d.inc + 1) d) d M (λ x. (each x).restart e k d M (p x));
  first = λ st formed x. (each x).first st formed;
}
  where
    many : (e k : ℕ) (outs : List Effect) (v : Parts) (d : Disk) (M : Seen) → ((x : A) → Walks (P x) e k outs (Up (P x) k v) d M) →
        Walks (λ N. (x : A) → P x N) e k outs (Up (λ N. (x : A) → P x N) k v) d M
    many e k outs v d M walks = walks_each P e k outs (λ x. Up (P x) k v) d M walks

objects_keep : (hd : Header) → KeepsAsked hd (ObjectsAreKnown hd)
objects_keep hd =
    asked_both hd (λ M. (IsGood M × BindsAreKnown M) × CallsAreOfHeader hd M) (λ M. (x : ℕ) → HasObject hd x → HaveEntries x M)
    (calls_keep hd)
    (keeps_asked hd (λ M. (x : ℕ) → HasObject hd x →
    HaveEntries x M) (keeps_each {A = ℕ} hd (λ x M. HasObject hd x → HaveEntries x M) (λ x. keeps_each {A = HasObject hd x} hd
    (λ has M. HaveEntries x M) (λ has. keeps_entries x hd (let k = entries_keep hd x has in k.first)))))

-- states, answers, and what servers have
askers_keep : (hd : Header) → HeaderFits hd → KeepsAsked hd (AskersAreKnown hd)
askers_keep hd form = asked_both hd (λ M. ((RequestsAreKnown M × HaveForms hd M) × ObjectsAreHeld M) × WereAsked M)
    (λ M. RequestsAreHome M × WritersArePast M)
    (keeps_asked hd (λ M. ((RequestsAreKnown M × HaveForms hd M) × ObjectsAreHeld M) × WereAsked M)
    (kept_both hd (λ M. (RequestsAreKnown M × HaveForms hd M) × ObjectsAreHeld M) WereAsked (kept_both hd
    (λ M. RequestsAreKnown M × HaveForms hd M) ObjectsAreHeld (kept_both hd RequestsAreKnown (HaveForms hd) (requests_keep hd)
    (keeps_given hd RequestsAreKnown (HaveForms hd) (keeps_each hd (λ x. AreSo (kind_of hd x)) (λ x. kept_forms hd x form))))
    (keeps_given hd (λ M. RequestsAreKnown M × HaveForms hd M) ObjectsAreHeld (objects_held hd))) (asked_given hd)))
    (keeps_asked hd (λ M. RequestsAreHome M × WritersArePast M) (kept_both hd RequestsAreHome WritersArePast (home_keep hd)
    (keeps_given hd RequestsAreHome WritersArePast (kept_both hd (λ M. IsGood M × AreSince M) ArePastWriters
    (kept_both hd IsGood AreSince (all_keep hd) (since_given hd))
    (given_more hd IsGood (λ M. IsGood M × AreSince M) ArePastWriters (λ M g. g.0) (writers_given hd))))))

pub waits_keep : HandlersKeepWaits
waits_keep hd form =
    asked_both hd (λ M. ((EndsArePast M × RequestsAreKnown M) × AreAddressed hd M) × ObjectsAreKnown hd M) (AskersAreKnown hd)
    (asked_both hd (λ M. (EndsArePast M × RequestsAreKnown M) × AreAddressed hd M) (ObjectsAreKnown hd)
    (asked_both hd (λ M. EndsArePast M × RequestsAreKnown M) (AreAddressed hd) (asked_both hd EndsArePast RequestsAreKnown
    (keeps_asked hd EndsArePast (past_keep hd)) (keeps_asked hd RequestsAreKnown (requests_keep hd))) (addressed hd form))
    (objects_keep hd))
    (askers_keep hd form)
