-- The world as a run begins, with both halves; and what a coordinator has of a root, where nothing of it has changed.
use Rattle.arj_law_parts.proofs.Words
use Words.{IsFormed, Start, world_from, ◌≡◌, ◌⊎◌, ◌+◌, ◌<◌, ℕ, [], true, false, None, refl, sym, ◌∙◌, ap, subst, inl, inr}
use Words.{⊎_elim, ◌∷◌, Header, Uid, Known}
use Words.{recovered_naming, Coord, Root, Naming, Parts, uid_number, Node, see, most_labels}
use Rattle.arj_law_disk_view.proofs.Terms
use Terms.{disk_by, first_at, first_up, State, Names, Office, Answer, Loaded, written_in, HasObject, packed, IsFirstNames, Packed, In}
use Terms.{some_is, IsFixed, Kinds}
use Terms.{SeesBoth, SeesRootOf, SeesGrants, HasList, HasRetained, IsTopOf, SeesLists, SeesNaming, AreEntries}
use Rattle.arj_law_disk.proofs.machine.NamingResults.{first_is_named}
use Rattle.arj_law_disk_view.proofs.names.RestartActs.{first_is_seen}
use Rattle.arj_law_disk_view.specs.{names.Both.StartsHaveBoth, running.Decided.IsPastNumber, running.Decided.most_version}
use Rattle.arj_law_disk_view.proofs.view.FirstSeen as seen

-- ---- as a run begins

-- naming's half, in this incarnation
abbrev first_names : ℕ → Names
first_names inc = record {
  inc = inc;
  row = λ h. None;
  given = λ t. false;
  told = λ t. false;
  confd = λ t. false;
  asked = λ t. false;
  live = false;
  had = λ t i. false;
  kept = λ h. None;
  answers = [];
}

first_names_is : (inc : ℕ) → IsFirstNames (first_names inc)
first_names_is inc = record {
  row = λ h. refl;
  given = λ t. refl;
  told = λ t. refl;
  confd = λ t. refl;
  asked = λ t. refl;
  had = λ t i. refl;
  kept = λ h. refl;
  answers = refl;
}

module _ (hd : Header) (x : ℕ) (tops : Kinds) (has_it : HasObject hd x) (st : Start) (formed : IsFormed hd st) where
  abbrev inc : ℕ
  inc = st.incs 1 + 1

  abbrev S : State
  S = seen.S hd st formed x tops has_it

  abbrev first_office : Office
  first_office = record { world = seen.W hd st formed x tops has_it; names = first_names inc }

  first_memory : AreEntries (disk_by hd st 1).names → (o : Naming) → recovered_naming inc (disk_by hd st 1).names ≡ o →
      SeesNaming x tops o S (first_names inc)
  first_memory entries o same = subst (λ z. SeesNaming x tops z S (first_names inc)) same
      (first_is_seen x tops inc (disk_by hd st 1).names S (first_names inc) (seen.first_is hd st formed x tops has_it)
      (first_names_is inc) refl refl (seen.entry_seen hd st formed x tops has_it) entries)

pub starts_have_both : StartsHaveBoth
starts_have_both hd x tops unwalked has_it serial plain idem st formed entries = (
  first_office hd x tops has_it st formed,
  record {
    named = first_is_named (seen.S hd st formed x tops has_it) (first_names (st.incs 1 + 1)) (seen.first_is hd st formed x tops has_it)
        (record { serial = serial; plain = plain; idem = idem }) (first_names_is (st.incs 1 + 1));
    disks = seen.start_seen hd st formed x tops has_it unwalked;
    names = record {
      inc = λ n is. ap (λ (m : Node). m.disk.inc) (first_at hd st 1 n is);
      memory = λ n p o is live named. first_memory hd x tops has_it st formed entries o
          (some_is refl (ap (λ (q : Parts). q.naming) (first_up hd st 1 n p is live) ∙ named));
    };
  },
)

-- and so much is known of it
pub starts_have_first : (hd : Header) (x : ℕ) (tops : Kinds) → tops.walk ≡ None → HasObject hd x →
    ((r : ℕ) → tops.is_serial r ≡ true → tops.root r ≡ r) → ((t : ℕ) → tops.is_serial (tops.root t) ≡ false → tops.root t ≡ t) →
    ((t : ℕ) → tops.root (tops.root t) ≡ tops.root t) → (st : Start) → IsFormed hd st → AreEntries (disk_by hd st 1).names
    → (A : Office) × SeesBoth x tops A (see [] (world_from hd st)) × IsFirstNames A.names × (A.world.disk.tops ≡ [])
    × (A.world.disk.first.writer ≡ uid_number (let m = st.marks.states x in m.writer))
    × (A.world.disk.first.version + most_labels < most_version)
    × ((g : Packed) → In g (A.world.disk.first ∷ A.world.disk.past) → IsPastNumber st g.writer)
    × ((t : ℕ) → A.world.disk.bare t ≡ false)
unfolding starts_have_both
starts_have_first hd x tops unwalked has_it serial plain idem st formed entries =
    let b = starts_have_both hd x tops unwalked has_it serial plain idem st formed entries in
    let f = seen.first_is hd st formed x tops has_it in (
      b.0,
      b.1,
      first_names_is (st.incs 1 + 1),
      f.undecided,
      ap (λ (y : ℕ). uid_number (let m = st.marks.states y in m.writer)) (let o = has_it in o.is),
      formed.short (let o = has_it in let l = o.line in l.x),
      past,
      f.none_bare,
    )
  where
    -- who wrote the last state, or an older one, had ended
    past : (g : Packed) → In g ((seen.S hd st formed x tops has_it).first ∷ (seen.S hd st formed x tops has_it).past) →
        IsPastNumber st g.writer
    past g (inl is) = (
      (let o = has_it in let m = st.marks.states o.line.x in m.writer),
      ap (λ (q : Packed). q.writer) (sym is),
      formed.states (let o = has_it in let l = o.line in l.x),
    )
    past g (inr i) = let p = seen.past_from x (seen.last_version hd st formed x tops has_it) st.older g i in
        (p.at.1.writer, ap (λ (q : Packed). q.writer) (sym p.is), (let o = seen.older_is hd st formed x tops has_it p.at p.there in o.past))

-- ---- a root of which nothing has changed

module _ (x : ℕ) (tops : Kinds) (root : Uid) (c : Coord) (r : Root) (A B : Office) (f : IsFixed tops A.world.disk)
    (h : IsFixed tops B.world.disk) (s : SeesRootOf x tops root c r A)
    (had : (z : ℕ) → (z ≡ uid_number root) ⊎ (tops.root z ≡ uid_number root) → B.names.had z ≡ A.names.had z) (kept : (z : ℕ) →
    (z ≡ uid_number root) ⊎ (tops.root z ≡ uid_number root) → B.names.kept z ≡ A.names.kept z)
    (answers : (a : Answer) → In a A.names.answers → In a B.names.answers) (states : written_in A.world.disk.root (uid_number root)
    B.world.disk.tops ≡ written_in A.world.disk.root (uid_number root) A.world.disk.tops) where
  roots : B.world.disk.root ≡ A.world.disk.root
  roots = h.root ∙ sym f.root

  serials : B.world.disk.serial ≡ A.world.disk.serial
  serials = h.serial ∙ sym f.serial

  grants_stay : SeesGrants x root c r B.world.disk B.names
  grants_stay = let g = s.grants in record {
    own = λ t i mine plain has. g.own t i (sym (ap (λ z. z (uid_number t)) roots) ∙ mine) (sym (ap (λ z. z (uid_number t)) serials) ∙ plain)
        (sym (ap (λ z. z i) (had (uid_number t) (inr (sym (ap (λ z. z (uid_number t)) h.root) ∙ mine)))) ∙ has);
    least = λ q there of. let l = s.lists in let m = l.family q there in
        ap (λ z. z q.least) (had (uid_number q.top) (inr m.of_root)) ∙ g.least q there of;
    kept = λ i serial has.
        g.kept i (sym (ap (λ z. z (uid_number root)) serials) ∙ serial) (sym (ap (λ z. z i) (had (uid_number root) (inl refl))) ∙ has);
  }

  list_on : (t : Uid) (k : Known) → IsTopOf tops root t → HasList A.names (uid_number t) k → HasList B.names (uid_number t) k
  list_on t k top l = record { kept = l.kept; there = kept (uid_number t) (inr top.of_root) ∙ l.there; since = l.since; within = l.within }

  retained_on : (k : Known) → HasRetained A.names (uid_number root) k → HasRetained B.names (uid_number root) k
  retained_on k l = record {
    had = ap (λ z. z (let b = k.binding in b.inc)) (had (uid_number root) (inl refl)) ∙ l.had;
    kept = l.kept;
    there = kept (uid_number root) (inl refl) ∙ l.there;
  }

  lists_stay : SeesLists x tops root c r B.names
  lists_stay = let l = s.lists in record {
    agree = λ k z q kept_is which there since. l.agree k z q kept_is which
        (sym (kept (uid_number z) (⊎_elim (λ e. inl (ap uid_number e)) (λ m. inr m.of_root) which)) ∙ there) since;
    family = l.family;
    granted = λ q b there of named. let m = l.granted q b there of named in
        (ap (λ z. z b.inc) (had (uid_number q.top) (inr (let w = l.family q there in w.of_root))) ∙ m.0, m.1);
    named = λ k q kept_is there of named. list_on q.top k (l.family q there) (l.named k q kept_is there of named);
    short = l.short;
    called = λ k q t kept_is there of alive on top.
        ⊎_elim (λ z. inl (list_on t k top z)) (λ z. inr (retained_on k z)) (l.called k q t kept_is there of alive on top);
    retained = λ k q kept_is there of on. retained_on k (l.retained k q kept_is there of on);
    nothing = l.nothing;
  }

  pub root_stays : SeesRootOf x tops root c r B
  root_stays = record {
    grants = grants_stay;
    lists = lists_stay;
    loads = λ j t there of on top. let l = s.loads j t there of on top in record {
      inc = l.inc;
      answered = answers (Loaded (uid_number t) l.inc (packed j.loaded)) l.answered;
      had = ap (λ z. z l.inc) (had (uid_number t) (inr top.of_root)) ∙ l.had;
    };
    state = s.state ∙ sym states ∙ ap (λ z. written_in z (uid_number root) B.world.disk.tops) (sym roots);
  }
