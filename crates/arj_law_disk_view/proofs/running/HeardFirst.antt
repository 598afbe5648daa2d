-- What coordinators have of naming's answers, as a run begins; and a root of which the machine has nothing.
use Rattle.arj_law_parts.proofs.Words
use Words.{if◌then◌else◌, ◌+◌, ◌<◌, ObjectLine, IsFormed, Start, world_from, ◌≡◌, ℕ, zero, suc, ◌==◌, Bool, true, false, List}
use Words.{[], Some, None, refl, sym, ◌∙◌, ap, subst, inl, inr, map, ◌∷◌}
use Words.{and_parts, in_from, Header, Uid, Coord, Doing, doing_of, new_coord, no_root, Intent, Parts, uid_number}
use Words.{put_states, at_place, is_own, Post, see, most_labels}
use Rattle.arj_law_disk_view.proofs.Terms
use Terms.{disk_by, entry_by, first_up, Office, written_in, IsFirstNames, Packed, never, test_is, HasObject, KnowsKinds, IsFixed, Kinds}
use Terms.{SeesBoth, SeesRootOf}
use Terms.{AreEntries, HasNoneOf, SeesHeard, SeesHeardAt}
use Terms.words
use Rattle.arj_law_disk_view.proofs.{names.RootsBoth.starts_have_first, running.EntryKeeps.put_entries}
use Rattle.arj_law_disk_view.specs.running.Decided.{IsPastNumber, most_version}

-- a root that has sent and heard nothing, and of which the machine has nothing
pub empty_seen : (x : ℕ) (tops : Kinds) (root : Uid) (c : Coord) (B : Office) → IsFixed tops B.world.disk →
    HasNoneOf tops (uid_number root) B → SeesRootOf x tops root c no_root B
empty_seen x tops root c B h none = record {
  grants = record {
    own = λ t i mine plain has. absurd (never has (none.had (uid_number t) i (inr (sym (ap (λ g. g (uid_number t)) h.root) ∙ mine))));
    least = λ g there of. absurd (in_from g [] there);
    kept = λ i serial has. absurd (never has (none.had (uid_number root) i (inl refl)));
  };
  lists = record {
    agree = λ k z l kept. absurd (cc kept);
    family = λ g there. absurd (in_from g [] there);
    granted = λ g b there. absurd (in_from g [] there);
    named = λ k g kept. absurd (cc kept);
    short = λ k kept. absurd (cc kept);
    called = λ k s t kept. absurd (cc kept);
    retained = λ k s kept. absurd (cc kept);
    nothing = λ kept s there. absurd (in_from s [] there);
  };
  loads = λ j t there. absurd (in_from j [] there);
  state = sym none.states;
}

-- nobody is at work in a coordinator that starts
none_works : (k inc : ℕ) (telling : List (Uid × Intent)) (u : Uid) (q : Doing) →
    doing_of u (record (new_coord k inc) { telling = telling }) ≡ Some q → ⊥
none_works k inc telling u q does = by (is_own u (let c = new_coord k inc in c.tree)) u.num does
  where
    by : (b : Bool) (n : ℕ) → (if b then at_place n [] else None) ≡ Some q → ⊥
    by true zero at = cc at
    by true (suc n) at = cc at
    by false n at = cc at

-- a coordinator that starts, of whose roots the machine has nothing
pub new_seen : (x k inc : ℕ) (tops : Kinds) (sent : List Post) (telling : List (Uid × Intent)) (B : Office) → IsFixed tops B.world.disk →
    ((u : Uid) → u.node ≡ k → u.inc ≡ inc → tops.root (uid_number u) ≡ uid_number u → HasNoneOf tops (uid_number u) B)
    → SeesHeardAt x k tops sent (record (new_coord k inc) { telling = telling }) B
new_seen x k inc tops sent telling B h none = record {
  roots = λ root w. let o = and_parts (root.node == k) (root.inc == inc) w.own in empty_seen x tops root
      (record (new_coord k inc) { telling = telling }) B h (none root (test_is root.node k o.0) (test_is root.inc inc o.1) w.alone);
  steps = λ u q s does. absurd (none_works k inc telling u q does);
  calls = λ u q s does. absurd (none_works k inc telling u q does);
  includes = λ root j i. absurd (in_from j [] i);
  plans = λ u q m does. absurd (none_works k inc telling u q does);
}

-- entries at naming, as a run begins
pub first_entries : (hd : Header) (st : Start) → AreEntries (disk_by hd st 1).names
first_entries hd st e c = put_entries 0 hd st hd.objects [] (λ z i. absurd i) e
    (in_from e (put_states (map (λ (o : ObjectLine). entry_by hd.format (st.marks.entries o.x) o) hd.objects) []) c)

module _ (hd : Header) (st : Start) (x : ℕ) (tops : Kinds) (kinds : KnowsKinds tops) (A : Office)
    (both : SeesBoth x tops A (see [] (world_from hd st))) (first : IsFirstNames A.names) (undecided : A.world.disk.tops ≡ []) where
  fixed : IsFixed tops A.world.disk
  fixed = let s = both.disks in s.fixed

  none : (r : ℕ) → HasNoneOf tops r A
  none r = record { had = λ z i of. first.had z i; kept = λ z of. first.kept z; states = ap (written_in A.world.disk.root r) undecided }

  first_heard : SeesHeard x tops A (see [] (world_from hd st))
  first_heard = record {
    kinds = kinds;
    coords = λ j n t there live. subst (λ (q : Parts). SeesHeardAt x j tops [] q.coord A) (first_up hd st j n t there live)
        (new_seen x j (st.incs j + 1) tops [] [] A fixed (λ u node inc alone. none (uid_number u)));
    future = λ j n u there node alone low. none (uid_number u);
    asked = λ q a r i. absurd i;
    posts = λ q i. absurd i;
  }

pub heard_first : (hd : Header) (x : ℕ) (tops : Kinds) → HasObject hd x → tops.walk ≡ None → KnowsKinds tops → (st : Start) → IsFormed hd st
    → let M = see [] (world_from hd st) in (A : Office) × SeesBoth x tops A M × SeesHeard x tops A M × (A.world.disk.tops ≡ [])
    × (A.world.disk.first.writer ≡ uid_number (let m = st.marks.states x in m.writer))
    × (A.world.disk.first.version + most_labels < most_version)
    × ((g : Packed) → words.In g (A.world.disk.first ∷ A.world.disk.past) → IsPastNumber st g.writer)
    × ((t : ℕ) → A.world.disk.bare t ≡ false)
heard_first hd x tops has unwalked kinds st formed =
    let f = starts_have_first hd x tops unwalked has kinds.alone kinds.plain kinds.idem st formed (first_entries hd st) in
    (f.0, f.1, first_heard hd st x tops kinds f.0 f.1 f.2 f.3, f.3, f.4, f.5, f.6, f.7)
