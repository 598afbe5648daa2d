-- Naming's requests, walked with both halves.
use Rattle.arj_law_parts.proofs.Words
use Words.{◌≡◌, ◌≢◌, ℕ, List, [], ◌∷◌, ◌++◌, false, Option, Some, None, refl, sym, ◌∙◌, ap, subst, inl, inr, ⊎_elim, ⊤, option_map, filter}
use Words.{map, Uid, Head, Path, RecordedReply, Reply, asked_by, response, top_of, Disk, Effect, Say, Send, Do, Served, Naming, Parts, Took}
use Words.{Void, holders, if_naming, is_earlier, naming_hello, query_about, sends_answer, served, with_naming, uid_number, AreAll, all_both}
use Words.{Seen}
use Words.naming
use Rattle.arj_law_disk_view.proofs.Terms
use Terms.{World, end_of, Named, Office, State, runs_keep, some_is, up, Up, walks_to, SeesEntry, IsLater, Kinds, IsFixed, SeesDisks}
use Terms.{BothWalk, DisksWalk, IsSeenFrom, OnlyMemory, SeesBoth, leaves_the_inc, ClaimsBound, OnlyLocks, IsOfTop, NamesGo, SeesNaming}
use Rattle.arj_law_disk_view.proofs.names.{Binding.binds_are_acts, EndActs.hellos_are_nothing, Noting.notes_are_acts, Onward.onward_still}
use Rattle.arj_law_disk_view.proofs.names.Pairing.{Ends, left_disk, naming_on, root_same, seen_as, still_only, walked_both}
use Rattle.arj_law_disk_view.proofs.view
use view.{Frames.node_here, HeardWalks.is_say, StoreWalks.took_is}
use view.ServedWalks.{bind_says, note_says}
use Rattle.arj_law_disk_view.specs.names.Both.{BindsKeepBoth, BothWalkTo, HellosKeepBoth, NotesKeepBoth}

-- ---- lines and sends leave the disk

pub says_leave : (es : List Effect) → AreAll is_say es → AreAll leaves_the_inc es
says_leave [] all = refl
says_leave (Say b ∷ es) all = says_leave es all
says_leave (Send to m ∷ es) all = absurd (cc all)
says_leave (Do w ∷ es) all = absurd (cc all)

pub left_says : (es : List Effect) (m : Effect) (d : Disk) → AreAll is_say es → ((w : _) → m ≢ Do w) → left_disk (es ++ m ∷ []) d ≡ d
left_says [] (Say b) d all other = refl
left_says [] (Send to m) d all other = refl
left_says [] (Do w) d all other = absurd (other w refl)
left_says (Say b ∷ es) m d all other = left_says es m d all other
left_says (Send to q ∷ es) m d all other = absurd (cc all)
left_says (Do w ∷ es) m d all other = absurd (cc all)

-- ---- a request that naming answers

module _ (x : ℕ) (tops : Kinds) (unwalked : tops.walk ≡ None) (e : ℕ) (d : Disk) (t : Parts) (n : Naming) (from : ℕ) (h : Head) (A : Office)
    (M : Seen) (named : t.naming ≡ Some n) (both : SeesBoth x tops A (up 1 d t M)) where
  pub memory : SeesNaming x tops n A.world.disk A.names
  memory = both.names.memory (record { number = 1; disk = d; live = Some t }) t n
      (node_here M 1 (record { number = 1; disk = d; live = Some t })) refl named

  -- naming's call goes by acts from the office that the disk half has come to
  abbrev Call : Naming → (Office → Type 0) → Type 0
  Call o Q = (B : Office) → Named B → B.names ≡ A.names → IsFixed tops B.world.disk → SeesNaming x tops n B.world.disk B.names →
      SeesEntry x d.names B.world.disk → NamesGo B (λ C. OnlyLocks B C × SeesNaming x tops o C.world.disk C.names × Q C)

  request : {R : Type 0} (say : R → Reply) (s : Served Naming R) (q : R) (v : Parts) (outs : List Effect) (Q : Office → Type 0) →
      s.reply ≡ Some q → AreAll is_say s.outs → served from h (with_naming t) say s ≡ Took v outs → Call s.part Q
      → DisksWalk (λ n. false) x tops A e 1 outs v d M → BothWalkTo Q x tops A e 1 outs v d M
  request say s q v outs Q reply says is goes = took_is x 1 tops e (λ p es. DisksWalk (λ n. false) x tops A e 1 es p d M →
      BothWalkTo Q x tops A e 1 es p d M) (with_naming t s.part) (s.outs ++ Send from (response (asked_by h) (say q)) ∷ []) v outs
      (sym (ap (λ o. sends_answer from h (with_naming t s.part) s.outs (option_map say o)) reply) ∙ is)
      (λ walk. walked_both x tops unwalked e 1 d t (with_naming t s.part) A M both End (s.outs ++ Send from (response (asked_by h) (say q))
      ∷ []) (all_both leaves_the_inc s.outs (Send from (response (asked_by h) (say q)) ∷ []) (says_leave s.outs says) refl) ends walk)
    where
      End : Disk → Seen → Type 0
      End c N = (B : Office) × OnlyMemory A B × SeesBoth x tops B (up 1 c (with_naming t s.part) N) × Q B

      last : Disk
      last = left_disk (s.outs ++ Send from (response (asked_by h) (say q)) ∷ []) d

      stays : last ≡ d
      stays = left_says s.outs (Send from (response (asked_by h) (say q))) d says (λ w is. cc is)

      ends : Ends x tops unwalked e 1 d t (with_naming t s.part) A M both End last
      ends N W st disks inc same =
          let root = root_same x tops 1 d (Some t) A M both W (up 1 last (with_naming t s.part) N) disks in
          let B : Office = record { world = W; names = A.names } in
          let entry : SeesEntry x d.names W.disk = subst (λ (z : Disk). SeesEntry x z.names W.disk) stays
          (disks.entry (record { number = 1; disk = last; live = Some (with_naming t s.part) })
          (node_here N 1 (record { number = 1; disk = last; live = Some (with_naming t s.part) }))) in
          let go = goes B st.named refl disks.fixed (naming_on x tops n A.world.disk W.disk A.names root memory) entry in
          let C : Office = end_of B go.acts in
          let only = go.there.0 in (
            C,
            record {
              later = subst (IsLater A.world) (sym only.world) st.later;
              tops = ap (λ (V : World). V.disk.tops) only.world ∙ st.tops;
              bare = λ z on. st.bare z (ap (λ (V : World). V.disk.bare z) (sym only.world) ∙ on);
              had = only.had;
              kept = only.kept;
              answers = only.answers;
              inc = only.inc;
              confd = λ z on. ap (λ f. f z) only.confd ∙ on;
              onward = onward_still A C W st.onward st.unconfirmed st.unpassed only.world;
            },
            seen_as x tops 1 d (Some t) A M both (with_naming t s.part) C N last (runs_keep B go.acts go.may st.named) only.inc
                (subst (λ V. SeesDisks x tops V (up 1 last (with_naming t s.part) N)) (sym only.world) disks) inc same
                (λ o one is. let same_part : s.part ≡ o = some_is refl is in
                subst (λ z. SeesNaming x tops z C.world.disk C.names) same_part go.there.1) (λ other. absurd (cc other)),
            go.there.2,
          )

-- a top's path is one still, where the kinds are these
pub of_on : (tops : Kinds) (p : Path) (S T : State) → IsFixed tops S → IsFixed tops T → IsOfTop tops S p → IsOfTop tops T p
of_on tops p S T s t o = record {
  top = o.top;
  plain = ap (λ f. f (uid_number (top_of p))) (t.serial ∙ sym s.serial) ∙ o.plain;
  path = ⊎_elim (λ alone. inl (alone.0, ap (λ f. f (uid_number (top_of p))) (t.root ∙ sym s.root) ∙ alone.1))
      (λ behind. inr (behind.0, behind.1, ap (λ f. f (uid_number (top_of p))) (t.root ∙ sym s.root) ∙ behind.2, behind.3, behind.4)) o.path;
}

pub binds_keep_both : BindsKeepBoth
binds_keep_both x y tops e d t v n from h include avoid r outs A M unwalked named reply is of_top both walk =
    request x tops unwalked e d t n from h A M named both Reply.Bound (naming.bind h.path y include avoid d.names n) r v outs
    (λ B. ClaimsBound x y (uid_number (top_of h.path)) r B.names) reply (bind_says h.path y include avoid d.names n)
    (sym (ap (λ o. if_naming (λ z. served from h (with_naming t) Reply.Bound (naming.bind h.path y include avoid d.names z)) o) named) ∙ is)
    (λ B c names fixed seen entry. binds_are_acts x y tops h.path include avoid d.names n B r c seen entry
    (of_on tops h.path A.world.disk B.world.disk both.disks.fixed fixed of_top) reply) walk

pub notes_keep_both : NotesKeepBoth
notes_keep_both x y tops e d t v n from h b i g outs A M unwalked named is of_top may both walk =
    by (let s = naming.note h.path y b i g n in s.reply) refl
  where
    took : served from h (with_naming t) Reply.Noted (naming.note h.path y b i g n) ≡ Took v outs
    took = sym (ap (λ o. if_naming (λ z. served from h (with_naming t) Reply.Noted (naming.note h.path y b i g z)) o) named) ∙ is

    by : (o : Option RecordedReply) → (let s = naming.note h.path y b i g n in s.reply) ≡ o → BothWalk x tops A e 1 outs v d M
    by None none = absurd (void (sym (ap (λ o. sends_answer from h (with_naming t (naming.note h.path y b i g n).part)
        (naming.note h.path y b i g n).outs (option_map Reply.Noted o)) none) ∙ took))
      where
        void : Void [] ≡ Took v outs → ⊥
        void h = cc h
    by (Some r) reply = walks_to (IsSeenFrom x tops A) (IsSeenFrom x tops A) e 1 outs (λ c N. (B : Office) × OnlyMemory A B
        × SeesBoth x tops B (up 1 c v N) × ⊤) (Up (IsSeenFrom x tops A) 1 v) d M (λ N s. s) (λ c N s. (s.0, s.1, s.2))
        (request x tops unwalked e d t n from h A M named both Reply.Noted (naming.note h.path y b i g n) r v outs (λ B. ⊤) reply
        (note_says h.path y b i g n) took
        (λ B c names fixed seen entry. let go = notes_are_acts x y tops h.path b i g n B r c seen
        (of_on tops h.path A.world.disk B.world.disk both.disks.fixed fixed of_top) (may B names entry) reply in
        record { acts = go.acts; may = go.may; there = (go.there.0, go.there.1, tt) }) walk)

-- ---- a node is up again

pub queries_leave : (us : List Uid) → AreAll leaves_the_inc (map query_about us)
queries_leave [] = refl
queries_leave (u ∷ us) = queries_leave us

pub hellos_keep_both : HellosKeepBoth
hellos_keep_both x tops e d t v node inc outs A M unwalked is both walk =
    took_is x 1 tops e (λ p es. DisksWalk (λ n. false) x tops A e 1 es p d M → BothWalk x tops A e 1 es p d M) new asked v outs is
    (λ walk. walked_both x tops unwalked e 1 d t new A M both (Up (IsSeenFrom x tops A) 1 new) asked
    (queries_leave (filter (is_earlier node inc) (holders d t))) ends walk) walk
  where
    new : Parts
    new = record t { naming = naming_hello node inc t.naming }

    asked : List Effect
    asked = map query_about (filter (is_earlier node inc) (holders d t))

    ends : Ends x tops unwalked e 1 d t new A M both (Up (IsSeenFrom x tops A) 1 new) (left_disk asked d)
    ends N W st disks same_inc same =
        let B : Office = record { world = W; names = A.names } in (
          B,
          still_only A W st,
          seen_as x tops 1 d (Some t) A M both new B N (left_disk asked d) st.named refl disks same_inc same
              (λ o one named. by t.naming refl o named) (λ other o. naming_on x tops o A.world.disk W.disk A.names st.later.root),
        )
      where
        by : (q : Option Naming) → t.naming ≡ q → (o : Naming) → naming_hello node inc q ≡ Some o → SeesNaming x tops o W.disk A.names
        by None named o h = absurd (cc h)
        by (Some n) named o h =
            let B : Office = record { world = W; names = A.names } in
            let root = root_same x tops 1 d (Some t) A M both W (up 1 (left_disk asked d) new N) disks in
            subst (λ z. SeesNaming x tops z W.disk A.names) (some_is refl h)
            (hellos_are_nothing x tops node inc n B
            (naming_on x tops n A.world.disk W.disk A.names root (both.names.memory (record { number = 1; disk = d; live = Some t }) t n
            (node_here M 1 (record { number = 1; disk = d; live = Some t })) refl named)))
