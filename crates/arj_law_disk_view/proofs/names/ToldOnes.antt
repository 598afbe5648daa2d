-- Who is told of an end: a message to naming, by what it says and whom it ends.
use Rattle.arj_law_parts.proofs.Words
use Words.{ℕ, ◌≡◌, ◌⊎◌, List, [], ◌∷◌, Bool, true, false, Option, Some, None, refl, sym, ◌∙◌, ap, subst, inl, inr, ⊎_elim}
use Words.{is_some, filter, not, if◌then◌else◌, list_all, and_parts, Uid, Ask}
use Words.{End, Head, Kind, Message, Path, asks, answers}
use Words.{Machine, Committing, Coord, Now}
use Words.{nodes_sent, root_at, servers_told, Branch, branch_of, ends_of, root_of, Disk, Effect, Intent}
use Words.{Say, Send, Do, Prepare}
use Words.{is_deferred, tell_all, tolds_by, tolds_of, tolds_of_branch, up_to, Naming, Parts}
use Words.{Took, ack_told, end_states}
use Words.{handle_told}
use Words.{at_number, uid_number, AreAll}
use Words.{is_server_effect}
use Words.{Seen}
use Words.ask
use Words.ending
use Words.kind
use Words.message
use Rattle.arj_law_disk_view.proofs.Terms
use Terms.{World, Whole, after, Acks, Note, only_acks, Named, Office, Do as act, naming as naming_node, In}
use Terms.{runs_keep, never, test_same, plain_act, up, Up, walks_to}
use Terms.{KnowsKinds, ClaimsLast, IsNested, Kinds}
use Terms.{ClaimsAbort, BothWalk, DisksWalk, IsSeenFrom, SeesBoth}
use Terms.{is_no_work, leaves_the_inc, ClaimsTop}
use Terms.machine
use Terms.mail
use Terms.seen
use Rattle.arj_law_disk_view.proofs.names.ToldBoth.{other_ends_keep_both, top_ends_keep_both}
use Rattle.arj_law_disk_view.proofs.view
use view.{Frames.sends_seen, Later.effects_are_later}
use view.{Later.later_on}
use Rattle.arj_law_disk_view.specs.names.{Both.IsOver}

-- ---- a request is no answer

pub asked_only : (m : Message) (b : Head × Ask) → asks m ≡ Some b → answers m ≡ None
asked_only (message.Bind m) b is = refl
asked_only (message.Bound m) b is = absurd (cc is)
asked_only (message.Load m) b is = refl
asked_only (message.Loaded m) b is = absurd (cc is)
asked_only (message.Activate m) b is = refl
asked_only (message.Activated m) b is = absurd (cc is)
asked_only (message.RecordMsg m) b is = refl
asked_only (message.Recorded m) b is = absurd (cc is)
asked_only (message.Invoke m) b is = refl
asked_only (message.Invoked m) b is = absurd (cc is)
asked_only (message.Vote m) b is = refl
asked_only (message.Voted m) b is = absurd (cc is)
asked_only (message.Prepare m) b is = refl
asked_only (message.Prepared m) b is = absurd (cc is)
asked_only (message.Confirm m) b is = refl
asked_only (message.Confirmed m) b is = absurd (cc is)
asked_only (message.Told m) b is = absurd (cc is)
asked_only (message.Acked m) b is = absurd (cc is)
asked_only (message.Query m) b is = absurd (cc is)
asked_only (message.Hello m) b is = absurd (cc is)

abbrev pub asks_confirm : Option (Head × Ask) → Bool
asks_confirm (Some (h, ask.Confirm grants excluded included)) = true
asks_confirm _ = false

abbrev pub is_told : Message → Bool
is_told (message.Told m) = true
is_told _ = false

abbrev pub told_ends : Message → List (Uid × End)
told_ends (message.Told m) = m.ends
told_ends _ = []

abbrev pub told_ack : Message → Bool
told_ack (message.Told m) = m.ack
told_ack _ = false

abbrev pub machine_in : Now → Option Machine
machine_in (Committing m) = Some m
machine_in _ = None

-- ---- what leaves the incarnation

pub server_leaves : (n : ℕ) (es : List Effect) → AreAll (is_server_effect n) es → AreAll leaves_the_inc es
server_leaves n [] all = refl
server_leaves n (Say b ∷ es) all = server_leaves n es (and_parts (is_server_effect n (Say b)) (list_all (is_server_effect n) es) all).1
server_leaves n (Send to m ∷ es) all = absurd (cc all)
server_leaves n (Do w ∷ es) all = absurd (cc all)

pub stored_leaves : (n : ℕ) (u : Uid) (how : End) (b : Bool) → AreAll leaves_the_inc (if b then end_states n u how else [])
stored_leaves n u ending.Commit true = refl
stored_leaves n u ending.Abort true = refl
stored_leaves n u ending.Commit false = refl
stored_leaves n u ending.Abort false = refl

pub acks_leave : (from : ℕ) (u : Uid) (b : Bool) → AreAll leaves_the_inc (ack_told from u b)
acks_leave from u true = refl
acks_leave from u false = refl

-- ---- who is told of

decided_begun : (W : World) (t m : ℕ) → Whole W → In (mail.ToldCommit t m) W.sent → W.disk.begun t ≡ true
decided_begun W t m whole told = ⊎_elim (whole.core.fresh.conf t) (whole.core.fresh.light t)
    (whole.core.coordinators.decided_taken t (whole.mail (mail.ToldCommit t m) told))

bare_begun : (W : World) (t : ℕ) → Whole W → W.disk.bare t ≡ true → W.disk.begun t ≡ true
bare_begun W t whole bare = ⊎_elim (whole.core.fresh.conf t) (whole.core.fresh.light t) (whole.core.bare.taken t bare)

-- the machine may tell naming of a commit without a record
told_bare : (x : ℕ) (tops : Kinds) (A : Office) (M : Seen) (t : ℕ) → tops.walk ≡ None → A.world.disk.bare t ≡ true → SeesBoth x tops A M →
    SeesBoth x tops (record { world = after A.world (machine.Send (mail.ToldBare t naming_node)); names = A.names }) M
told_bare x tops A M t unwalked bare both = record {
  named = (let p = plain_act A (machine.Send (mail.ToldBare t naming_node)) bare refl in
      subst (λ N. Named (record { world = after A.world (machine.Send (mail.ToldBare t naming_node)); names = N })) p.names
      (runs_keep A (act (machine.Send (mail.ToldBare t naming_node)) ∷ []) (p.may, tt) both.named));
  disks = sends_seen x tops A.world M (mail.ToldBare t naming_node) bare refl both.disks;
  names = record { inc = both.names.inc; memory = both.names.memory };
}

-- an end that naming is told of
-- tolds are no work
tells_work : (root : Uid) (ack : Bool) (ends : List (Uid × End)) (ns : List ℕ) → AreAll is_no_work (tell_all root ack ends ns)
tells_work root ack ends [] = refl
tells_work root ack ends (n ∷ ns) = tells_work root ack ends ns

pub tolds_work : (intents : List (Uid × Intent)) (c : Coord) (u : Uid) → AreAll is_no_work (tolds_of intents c u)
tolds_work intents c u = by (branch_of u c.tree)
  where
    by_kind : (k : Kind) (p : Path) → AreAll is_no_work (tolds_by u k p intents c)
    by_kind kind.Nested p = tells_work (root_of p) false (up_to u (ends_of (root_of p) c.tree)) (servers_told u (root_at (root_of p) c) c)
    by_kind kind.Serial p =
        tells_work u false ((u, ending.Abort) ∷ []) (filter (λ n. not (is_deferred u intents n)) (nodes_sent u (root_at u c)))
    by_kind kind.Top p = tells_work (root_of p) false ((u, ending.Abort) ∷ []) (nodes_sent u (root_at (root_of p) c))
    by_kind kind.Independent p = tells_work (root_of p) false ((u, ending.Abort) ∷ []) (nodes_sent u (root_at (root_of p) c))
    by_kind kind.Constituent p = tells_work (root_of p) false ((u, ending.Abort) ∷ []) (nodes_sent u (root_at (root_of p) c))

    by : (o : Option Branch) → AreAll is_no_work (tolds_of_branch u intents c o)
    by None = refl
    by (Some b) = by_kind b.kind b.path

module _ (x : ℕ) (tops : Kinds) (unwalked : tops.walk ≡ None) (e : ℕ) (d : Disk) (t v : Parts) (n : Naming) (from : ℕ) (ack : Bool)
    (ends : List (Uid × End)) (u : Uid) (outs : List Effect) (A : Office) (M : Seen) (named : t.naming ≡ Some n) (kinds : KnowsKinds tops)
    (there : is_some (at_number x n.objects) ≡ true) (both : SeesBoth x tops A (up 1 d t M)) (walk : (f : Note → Bool) (B : Office) →
    SeesBoth x tops B (up 1 d t M) → (ack ≡ true → f (Acks (uid_number u)) ≡ true) → DisksWalk f x tops B e 1 outs v d M) where
  of_top : (how : End) → handle_told 1 d t from ack ends u how ≡ Took v outs → tops.is_top (uid_number u) ≡ true → (B : Office) →
      SeesBoth x tops B (up 1 d t M) → ClaimsTop B (uid_number u) how → BothWalk x tops B e 1 outs v d M
  of_top how is top B seen claims = top_ends_keep_both x tops e d t v n from ack ends u how outs B M unwalked named is top
      (let f = seen.disks in ap (λ g. g (uid_number u)) (let h = f.fixed in h.serial) ∙ kinds.apart (uid_number u) top) claims seen
      (walk (only_acks (uid_number u)) B seen (λ on. test_same (uid_number u)))

  of_other : (how : End) → handle_told 1 d t from ack ends u how ≡ Took v outs → (ack ≡ true → In (mail.ToldCommit (uid_number u) 1)
      A.world.sent) → IsOver x tops A u how n ⊎ IsNested tops (uid_number u) → BothWalk x tops A e 1 outs v d M
  of_other how is acks kind =
      other_ends_keep_both x tops e d t v n from ack ends u how outs A M unwalked named is kind both (walk (λ z. false) A both (λ on. absurd
      (clash (both.disks.kinds (uid_number u) (decided_begun A.world (uid_number u) 1 (let c = both.disks in c.whole) (acks on))) kind)))
    where
      clash : (tops.is_top (uid_number u) ≡ true) × (A.world.disk.serial (uid_number u) ≡ false) →
          IsOver x tops A u how n ⊎ IsNested tops (uid_number u) → ⊥
      clash k (inl over) = never over.1 k.1
      clash k (inr nested) = never k.0 nested.0

  pub told_both : (how : End) → ClaimsLast tops A.world 1 ack (Some (u, how)) → handle_told 1 d t from ack ends u how ≡ Took v outs →
      BothWalk x tops A e 1 outs v d M
  told_both ending.Commit claims is = by claims.0
    where
      by : (In (mail.ToldCommit (uid_number u) 1) A.world.sent ⊎ (A.world.disk.bare (uid_number u) ≡ true))
          ⊎ IsNested tops (uid_number u) → BothWalk x tops A e 1 outs v d M
      by (inl (inl told)) = of_top ending.Commit is (both.disks.kinds (uid_number u)
          (decided_begun A.world (uid_number u) 1 (let c = both.disks in c.whole) told)).0 A both (inl told)
      by (inl (inr bare)) =
          let B : Office = record { world = after A.world (machine.Send (mail.ToldBare (uid_number u) naming_node)); names = A.names } in
          walks_to (IsSeenFrom x tops B) (IsSeenFrom x tops A) e 1 outs (Up (IsSeenFrom x tops B) 1 v) (Up (IsSeenFrom x tops A) 1 v) d M
          (λ N s. turned s) (λ c N s. turned s)
          (of_top ending.Commit is (both.disks.kinds (uid_number u) (bare_begun A.world (uid_number u) (let c = both.disks in
          c.whole) bare)).0 B (told_bare x tops A (up 1 d t M) (uid_number u) unwalked bare both) (inr (inl refl)))
        where
          turned : {N : Seen} → IsSeenFrom x tops
              (record { world = after A.world (machine.Send (mail.ToldBare (uid_number u) naming_node)); names = A.names }) N →
              IsSeenFrom x tops A N
          turned (C, only, s) = (
            C,
            record {
              later = later_on A.world (after A.world (machine.Send (mail.ToldBare (uid_number u) naming_node))) C.world (effects_are_later
                  A.world (machine.Send (mail.ToldBare (uid_number u) naming_node) ∷ []) (bare, tt) (let c = both.disks in c.whole))
                  only.later;
              tops = only.tops;
              bare = only.bare;
              had = only.had;
              kept = only.kept;
              answers = only.answers;
              inc = only.inc;
              confd = only.confd;
              onward =
                  (let o = only.onward in record { conf = o.conf; passed = o.passed; light = o.light; gone = o.gone; begins = o.begins });
            },
            s,
          )
      by (inr nested) = of_other ending.Commit is claims.1 (inr nested)
  told_both ending.Abort claims is = by claims.0
    where
      by : ((tops.is_top (uid_number u) ≡ true) × ClaimsAbort A.world u 1) ⊎ (((A.world.disk.serial (uid_number u) ≡ true)
          × In (mail.ToldSerial (uid_number u) 1) A.world.sent) ⊎ IsNested tops (uid_number u)) → BothWalk x tops A e 1 outs v d M
      by (inl (top, inl told)) = of_top ending.Abort is top A both told
      by (inl (top, inr bare)) = absurd (bare.1 refl)
      by (inr (inl over)) = of_other ending.Abort is claims.1
          (inl (ap (λ g. g (uid_number u)) (sym (let c = both.disks in let f = c.fixed in f.serial)) ∙ over.0, over.0, refl, over.1, there))
      by (inr (inr nested)) = of_other ending.Abort is claims.1 (inr nested)
