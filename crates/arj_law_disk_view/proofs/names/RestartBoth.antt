-- A node's restart, walked with both halves.
use Rattle.arj_law_parts.proofs.Words
use Words.{◌≡◌, ◌⊎◌, ◌==◌, ◌&&◌, ◌+◌, ◌≤◌, arith, ℕ, List, [], ◌∷◌, ◌++◌, map, Bool, true, false, Option, Some, None, refl, sym, ◌∙◌, ap}
use Words.{subst, inl, inr, ⊎_elim, ⊤, if◌then◌else◌, Uid, Header, recovered_naming, Disk, Effect, Say, Do, Look, PutInc, Stop, Before}
use Words.{After, InPart, Intent, stopped, tell, tell_all, Naming, Parts, prepared_actions, query_about, uid_set, without_number, AreAll}
use Words.{Node, hello_to, naming_at, naming_back, numbers_to, parts_in, recovered_records, restart_outs, tolds_again, all_both, all_flat}
use Words.{numbered, Seen}
use Words.body
use Words.ending
use Rattle.arj_law_disk_view.proofs.Terms
use Terms.{In, May, only_decides, Named, Names, Office, acted, runs_keep, never, some_is, test_is, test_same, down, said, Walks, Up, halted}
use Terms.{walks_to, IsSeenByDisks, Kinds, followed, IsFrom, IsOpenByDisks, IsOpenIn, IsSeenIn, OnlyAtNode, OnlyRoots, SeesBoth, SeesNames}
use Terms.{leaves_the_inc, SeesNaming, AreEntries, has_prepared}
use Rattle.arj_law_disk.specs.machine.Names.{Restart}
use Rattle.arj_law_disk_view.proofs.{names.NamingWalks.queries_leave, names.NamingWalks.says_leave, names.RestartActs.restarts_are_acts}
use Rattle.arj_law_disk_view.proofs.{names.StepsBoth.walks_start, view.Frames.node_cases, view.Frames.node_here, view.Frames.says_seen}
use Rattle.arj_law_disk_view.proofs.names.CoordBoth.{decisions_keep_both, decisions_stop, stops, stops_same}
use Rattle.arj_law_disk_view.proofs.view.RestartWalks.{back_says, map_says, raised, restarts_stop}
use Rattle.arj_law_disk_view.specs.names.Both.{IsOpenAgain, IsSeenAgain, RestartsKeepBoth, RestartsStopOpen}

-- of naming's half this has changed since before the restart
again : (g : ℕ → Bool) (A : Office) (N : Names) → N.had ≡ A.names.had → N.kept ≡ A.names.kept → N.answers ≡ A.names.answers → (B : Office) →
    OnlyRoots g (record { world = A.world; names = N }) B → OnlyAtNode g A B
again g A N had kept answers B only = record {
  root = only.root;
  grows = λ h i old. only.grows h i (ap (λ f. f h i) had ∙ old);
  had = λ h o. only.had h o ∙ ap (λ f. f h) had;
  kept = λ h o. only.kept h o ∙ ap (λ f. f h) kept;
  tops = only.tops;
  answers = λ a i. subst (λ (L : Names). In a L.answers) (sym only.names) (subst (In a) (sym answers) i);
}

from_again : (g : ℕ → Bool) (A : Office) (N : Names) → N.had ≡ A.names.had → (B : Office) →
    IsFrom g (record { world = A.world; names = N }) B → IsFrom g A B
from_again g A N had B from h i on = ⊎_elim (λ own. inl (sym (ap (λ f. f h i) had) ∙ own))
    (λ its. inr (its.0, its.1, its.2, its.3, sym (ap (λ f. f its.0 i) had) ∙ its.4)) (from h i on)

module _ (x : ℕ) (tops : Kinds) (unwalked : tops.walk ≡ None) (e k : ℕ) (hd : Header) (d : Disk) (g : ℕ →
    Bool) (A : Office) (M : Seen) (entries : k ≡ 1 → AreEntries d.names) (both : SeesBoth x tops A (down k d M)) where
  abbrev d1 : Disk
  d1 = record d { inc = d.inc + 1 }

  abbrev Back : Parts
  Back = parts_in k (d.inc + 1) d

  -- ---- once the incarnation has risen

  record Risen : Type 0 where
    names : Names
    named : Named (record { world = A.world; names = names })
    had : names.had ≡ A.names.had
    kept : names.kept ≡ A.names.kept
    answers : names.answers ≡ A.names.answers
    seen : SeesNames x tops (record { world = A.world; names = names }) (down k d1 M)
    inc : A.names.inc ≤ names.inc
    confd : A.names.inc ≡ names.inc → (t : ℕ) → A.names.confd t ≡ true → names.confd t ≡ true
    memory : (o : Naming) → k ≡ 1 → Back.naming ≡ Some o → SeesNaming x tops o A.world.disk names

  risen_node : (m : ℕ) (n : Node) → (down k d1 M).nodes m ≡ Some n →
      ((m ≡ k) × (record { number = k; disk = d1; live = None } ≡ n)) ⊎ (((m == k) ≡ false) × ((down k d M).nodes m ≡ Some n))
  risen_node m n is = ⊎_elim (λ here. inl here)
      (λ other. inr (other.0, ap (λ b. if b then Some (record { number = k; disk = d; live = None }) else M.nodes m) other.0 ∙ other.1))
      (node_cases M k (record { number = k; disk = record d { inc = d.inc + 1 }; live = None }) m n is)

  none_live : {p : Parts} → ◌≡◌ {A = Option Parts} None (Some p) → ⊥
  none_live is = cc is

  elsewhere : (k == 1) ≡ false → Risen
  elsewhere other = record {
    names = A.names;
    named = both.named;
    inc = omega arith;
    confd = λ same t on. on;
    had = refl;
    kept = refl;
    answers = refl;
    seen = record {
      inc = λ n is. ⊎_elim (λ (h : (1 ≡ k) × (record { number = k; disk = d1; live = None } ≡ n)).
          absurd (never (ap (λ j. j == 1) (sym h.0) ∙ test_same 1) other)) (λ there. both.names.inc n there.1) (risen_node 1 n is);
      memory = λ n p o is live naming. ⊎_elim (λ (h : (1 ≡ k) × (record { number = k; disk = d1; live = None } ≡ n)). absurd
          (none_live (ap (λ (z : Node). z.live) h.1 ∙ live))) (λ there. both.names.memory n p o there.1 live naming) (risen_node 1 n is);
    };
    memory = λ o one is. absurd (never (ap (λ j. j == 1) one ∙ test_same 1) other);
  }

  at_naming : k ≡ 1 → Risen
  at_naming one = record {
    names = B.names;
    named = runs_keep A (Restart (has_prepared d.names) ∷ []) (acts.0, tt) both.named;
    inc = omega arith;
    confd = λ same t on. absurd (rose same);
    had = refl;
    kept = refl;
    answers = refl;
    seen = record {
      inc = λ n is. ⊎_elim (λ (h : (1 ≡ k) × (record { number = k; disk = d1; live = None } ≡ n)). ap (λ i. i + 1) inc_is
          ∙ ap (λ (z : Node). z.disk.inc) h.1) (λ there. absurd (never (ap (λ j. 1 == j) one ∙ test_same 1) there.0)) (risen_node 1 n is);
      memory = λ n p o is live naming. ⊎_elim (λ (h : (1 ≡ k) × (record { number = k; disk = d1; live = None } ≡ n)). absurd (none_live (ap
          (λ (z : Node). z.live) h.1 ∙ live))) (λ there. absurd (never (ap (λ j. 1 == j) one ∙ test_same 1) there.0)) (risen_node 1 n is);
    };
    memory = λ o here is. subst (λ z. SeesNaming x tops z A.world.disk B.names) (some_is refl
        (sym (ap (λ b. if b then Some (recovered_naming (d.inc + 1) d.names) else None) (ap (λ j. j == 1) one ∙ test_same 1)) ∙ is)) acts.1;
  }
    where
      node_one : (down k d M).nodes 1 ≡ Some (record { number = k; disk = d; live = None })
      node_one = ap (λ m. (down k d M).nodes m) (sym one) ∙ node_here M k (record { number = k; disk = d; live = None })

      rose : A.names.inc ≡ A.names.inc + 1 → ⊥
      rose same = omega (arith, same)

      inc_is : A.names.inc ≡ d.inc
      inc_is = both.names.inc (record { number = k; disk = d; live = None }) node_one

      B : Office
      B = acted A (Restart (has_prepared d.names))

      acts : May A (Restart (has_prepared d.names)) × SeesNaming x tops (recovered_naming (d.inc + 1) d.names) A.world.disk
          (let C = acted A (Restart (has_prepared d.names)) in C.names)
      acts = restarts_are_acts x tops d.inc d.names A both.named inc_is
          (both.disks.entry (record { number = k; disk = d; live = None }) node_one) (entries one) (λ t began. (both.disks.kinds t began).0)

  risen : Risen
  risen = by (k == 1) refl
    where
      by : (b : Bool) → (k == 1) ≡ b → Risen
      by true is = at_naming (test_is k 1 is)
      by false is = elsewhere is

  -- ---- the walk

  abbrev Rest : List Effect
  Rest = Do Look ∷ naming_back (naming_at k (d.inc + 1) d.names) ++ (Do Look ∷ recovered_records k d.intents) ++ tolds_again d.intents
      ++ map query_about (uid_set (prepared_actions d.store ++ prepared_actions d.names))
      ++ map (hello_to k (d.inc + 1)) (without_number k (numbers_to hd.nodes))

  map_leaves : {X : Type 0} (f : X → Effect) (xs : List X) → ((a : X) → leaves_the_inc (f a) ≡ true) → AreAll leaves_the_inc (map f xs)
  map_leaves f [] each = refl
  map_leaves f (a ∷ more) each = all_both leaves_the_inc (f a ∷ []) (map f more) (ap (λ b. b && true) (each a)) (map_leaves f more each)

  rest_leaves : AreAll leaves_the_inc Rest
  rest_leaves =
      let back : List Effect = naming_back (naming_at k (d.inc + 1) d.names) in
      let next : List Effect = Do Look ∷ recovered_records k d.intents in
      let hs : List Uid = uid_set (prepared_actions d.store ++ prepared_actions d.names) in
      let hellos : List Effect = map (hello_to k (d.inc + 1)) (without_number k (numbers_to hd.nodes)) in
      all_both leaves_the_inc (Do Look ∷ back ++ next ++ tolds_again d.intents ++ map query_about hs) hellos
      (all_both leaves_the_inc (Do Look ∷ back ++ next ++ tolds_again d.intents) (map query_about hs)
      (all_both leaves_the_inc (Do Look ∷ back ++ next) (tolds_again d.intents)
      (all_both leaves_the_inc (Do Look ∷ back) next (says_leave back (back_says (naming_at k (d.inc + 1) d.names)))
      (says_leave (recovered_records k d.intents) (map_says (λ (z : Uid × Intent). Say (body.Recovered k z.0)) d.intents (λ z. refl))))
      (all_flat leaves_the_inc (λ (z : Uid × Intent). tell_all z.1.root true ((z.0, ending.Commit) ∷ []) z.1.nodes) d.intents
      (λ z. map_leaves (λ n. tell z.1.root true ((z.0, ending.Commit) ∷ []) n) z.1.nodes (λ n. refl))))
      (queries_leave hs))
      (map_leaves (hello_to k (d.inc + 1)) (without_number k (numbers_to hd.nodes)) (λ n. refl))

  abbrev Nobody : Parts
  Nobody = record (parts_in k (d.inc + 1) d) { naming = None }

  no_naming : (N : Names) (o : Naming) → k ≡ 1 → Nobody.naming ≡ Some o → SeesNaming x tops o A.world.disk N
  no_naming N o one is = absurd (cc is)

  abbrev P : Seen → Type 0
  P = IsSeenByDisks x (followed tops A.world (only_decides g))

  abbrev Now_office : Office
  Now_office = record { world = A.world; names = risen.names }

  both_risen : SeesBoth x tops (record { world = A.world; names = risen.names }) (down k d1 M)
  both_risen = record { named = risen.named; disks = raised x k tops M d A.world both.disks; names = risen.seen }

  both_said : SeesBoth x tops (record { world = A.world; names = risen.names }) (down k d1 (said e (body.Up k (d.inc + 1) ∷ []) M))
  both_said = record {
    named = risen.named;
    disks = says_seen x tops A.world (down k d1 M) (numbered e (body.Up k (d.inc + 1) ∷ [])) both_risen.disks;
    names = record { inc = risen.seen.inc; memory = risen.seen.memory };
  }

  -- of naming's memory a decision changes nothing
  memory_on : (N : Names) (B : Office) → OnlyRoots g (record { world = A.world; names = N }) B → A.names.inc ≤ N.inc →
      (A.names.inc ≡ N.inc → (t : ℕ) → A.names.confd t ≡ true → N.confd t ≡ true)
      → (A.names.inc ≤ B.names.inc) × (A.names.inc ≡ B.names.inc → (t : ℕ) → A.names.confd t ≡ true → B.names.confd t ≡ true)
  memory_on N B only low confd = (
    subst (λ i. A.names.inc ≤ i) (sym (ap (λ (L : Names). L.inc) only.names)) low,
    λ same t on. ap (λ (L : Names). L.confd t) only.names ∙ confd (same ∙ ap (λ (L : Names). L.inc) only.names) t on,
  )

  early : P (halted e k d M) → IsSeenAgain g x tops A (halted e k d M)
  early p = let r = stops g (λ t. true) A both.named (λ t on off. absurd (never refl off)) x tops unwalked e k d None Nobody M
      (no_naming A.names) both d M refl refl p in (
        r.0,
        record {
          only = again g A A.names refl refl refl r.0 r.1.only;
          from = from_again g A A.names refl r.0 (let o = r.1.only in o.from);
          along = r.1.along;
          inc = (memory_on A.names r.0 r.1.only (omega arith) (λ same t on. on)).0;
          confd = (memory_on A.names r.0 r.1.only (omega arith) (λ same t on. on)).1;
        },
        r.2,
      )

  late : P (halted e k d1 M) → IsSeenAgain g x tops A (halted e k d1 M)
  late p = let r = stops g (λ t. true) Now_office risen.named (λ t on off. absurd (never refl off)) x tops unwalked e k d1 None Nobody M
      (no_naming risen.names) both_risen d1 M refl refl p in (
        r.0,
        record {
          only = again g A risen.names risen.had risen.kept risen.answers r.0 r.1.only;
          from = from_again g A risen.names risen.had r.0 (let o = r.1.only in o.from);
          along = r.1.along;
          inc = (memory_on risen.names r.0 r.1.only risen.inc risen.confd).0;
          confd = (memory_on risen.names r.0 r.1.only risen.inc risen.confd).1;
        },
        r.2,
      )

  looks : (how : Stop) → P (halted e k (stopped how Look d) M) → IsSeenAgain g x tops A (halted e k (stopped how Look d) M)
  looks Before p = early p
  looks After p = early p
  looks (InPart which) p = early p

  rises : (how : Stop) → P (halted e k (stopped how (PutInc (d.inc + 1)) d) M) →
      IsSeenAgain g x tops A (halted e k (stopped how (PutInc (d.inc + 1)) d) M)
  rises Before p = early p
  rises After p = late p
  rises (InPart which) p = early p

  pub restart_both : Walks (IsSeenByDisks x (followed tops A.world (only_decides g))) e k (restart_outs hd k (d.inc + 1) d)
      (Up (IsSeenByDisks x (followed tops A.world (only_decides g))) k (parts_in k (d.inc + 1) d)) d M
      → Walks (IsSeenAgain g x tops A) e k (restart_outs hd k (d.inc + 1) d) (Up (IsSeenAgain g x tops A) k (parts_in k (d.inc + 1) d)) d M
  restart_both walk = (
    λ how. looks how (walk.0 how),
    (
      λ how. rises how (walk.1.0 how),
      walks_to (IsSeenIn g (λ t. true) x tops Now_office) (IsSeenAgain g x tops A) e k Rest (Up (IsSeenIn g (λ t. true) x tops Now_office) k
          (parts_in k (d.inc + 1) d)) (Up (IsSeenAgain g x tops A) k (parts_in k (d.inc + 1) d)) d1 (said e (body.Up k (d.inc + 1) ∷ []) M)
          (λ N r. (
            r.0,
            record {
              only = again g A risen.names risen.had risen.kept risen.answers r.0 r.1.only;
              from = from_again g A risen.names risen.had r.0 (let o = r.1.only in o.from);
              along = r.1.along;
              inc = (memory_on risen.names r.0 r.1.only risen.inc risen.confd).0;
              confd = (memory_on risen.names r.0 r.1.only risen.inc risen.confd).1;
            },
            r.2,
          )) (λ c N r. (
            r.0,
            record {
              only = again g A risen.names risen.had risen.kept risen.answers r.0 r.1.only;
              from = from_again g A risen.names risen.had r.0 (let o = r.1.only in o.from);
              along = r.1.along;
              inc = (memory_on risen.names r.0 r.1.only risen.inc risen.confd).0;
              confd = (memory_on risen.names r.0 r.1.only risen.inc risen.confd).1;
            },
            r.2,
          ))
          (decisions_keep_both x tops e k d1 None (parts_in k (d.inc + 1) d) Rest g (λ t. true) Now_office (said e
          (body.Up k (d.inc + 1) ∷ []) M) unwalked rest_leaves (λ t on off. absurd (never refl off)) risen.memory both_said walk.1.1),
    ),
  )

  -- ---- where stops fall

  abbrev Openly : Seen → Type 0
  Openly = IsOpenByDisks x (followed tops A.world (only_decides g)) A.world

  early_open : Openly (halted e k d M) → IsOpenAgain g x tops A (halted e k d M)
  early_open p = let r = stops_same g (λ t. true) A both.named (λ t on off. absurd (never refl off)) x tops unwalked e k d None Nobody M
      (no_naming A.names) both d M refl refl p in (
        r.0,
        record {
          only = again g A A.names refl refl refl r.0 r.1.only;
          from = from_again g A A.names refl r.0 (let o = r.1.only in o.from);
          along = r.1.along;
          inc = (memory_on A.names r.0 r.1.only (omega arith) (λ same t on. on)).0;
          confd = (memory_on A.names r.0 r.1.only (omega arith) (λ same t on. on)).1;
        },
        r.2,
        r.3,
      )

  late_open : Openly (halted e k d1 M) → IsOpenAgain g x tops A (halted e k d1 M)
  late_open p = let r = stops_same g (λ t. true) Now_office risen.named (λ t on off. absurd (never refl off)) x tops unwalked e k d1 None
      Nobody M (no_naming risen.names) both_risen d1 M refl refl p in (
        r.0,
        record {
          only = again g A risen.names risen.had risen.kept risen.answers r.0 r.1.only;
          from = from_again g A risen.names risen.had r.0 (let o = r.1.only in o.from);
          along = r.1.along;
          inc = (memory_on risen.names r.0 r.1.only risen.inc risen.confd).0;
          confd = (memory_on risen.names r.0 r.1.only risen.inc risen.confd).1;
        },
        r.2,
        r.3,
      )

  looks_open : (how : Stop) → Openly (halted e k (stopped how Look d) M) → IsOpenAgain g x tops A (halted e k (stopped how Look d) M)
  looks_open Before p = early_open p
  looks_open After p = early_open p
  looks_open (InPart which) p = early_open p

  rises_open : (how : Stop) → Openly (halted e k (stopped how (PutInc (d.inc + 1)) d) M) →
      IsOpenAgain g x tops A (halted e k (stopped how (PutInc (d.inc + 1)) d) M)
  rises_open Before p = early_open p
  rises_open After p = late_open p
  rises_open (InPart which) p = early_open p

  pub restart_open : Walks Openly e k (restart_outs hd k (d.inc + 1) d) (λ c N. ⊤) d M →
      Walks (IsOpenAgain g x tops A) e k (restart_outs hd k (d.inc + 1) d) (λ c N. ⊤) d M
  restart_open walk = (
    λ how. looks_open how (walk.0 how),
    (
      λ how. rises_open how (walk.1.0 how),
      walks_to (IsOpenIn g (λ t. true) x tops Now_office) (IsOpenAgain g x tops A) e k Rest (λ c N. ⊤) (λ c N. ⊤) d1
          (said e (body.Up k (d.inc + 1) ∷ []) M)
          (λ N r. (
            r.0,
            record {
              only = again g A risen.names risen.had risen.kept risen.answers r.0 r.1.only;
              from = from_again g A risen.names risen.had r.0 (let o = r.1.only in o.from);
              along = r.1.along;
              inc = (memory_on risen.names r.0 r.1.only risen.inc risen.confd).0;
              confd = (memory_on risen.names r.0 r.1.only risen.inc risen.confd).1;
            },
            r.2,
            r.3,
          )) (λ c N s. tt)
          (decisions_stop g (λ t. true) Now_office both_said.named (λ t on off. absurd (never refl off)) x tops unwalked e k d1 None
          (parts_in k (d.inc + 1) d) (said e (body.Up k (d.inc + 1) ∷ []) M) risen.memory both_said Rest rest_leaves walk.1.1),
    ),
  )

pub restarts_keep_both : RestartsKeepBoth
restarts_keep_both x tops e k hd d g A M unwalked entries both walk = restart_both x tops unwalked e k hd d g A M entries both walk

pub restarts_stop_open : RestartsStopOpen
restarts_stop_open x tops e k hd d g A M unwalked entries both = restart_open x tops unwalked e k hd d g A M entries both
    (restarts_stop x (followed tops A.world (only_decides g)) e k hd d M A.world (walks_start x tops (only_decides g) A (down k d M) both))
