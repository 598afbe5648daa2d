-- All that holds of nodes and messages holds at first, and a restart leaves it.
use Rattle.arj_law_parts.proofs.Words
use Words.{slice_get, AllByRecursion, ◌≡◌, ◌+◌, arith, ℕ, List, [], ◌∷◌, ◌++◌, length, map, zero, suc, true, false, Option, Some, None}
use Words.{refl, sym, ◌∙◌, ap, subst, ⊎_elim, length-append, in_from, Uid, Header, Coord, new_coord, back_lines, Disk, Effect, Say, Do}
use Words.{Look, PutInc, Before, After, InPart, Intent, Named, Naming, Parts, query_about, prepared_actions, uid_set, without_number, Node}
use Words.{hello_to, naming_at, naming_back, numbers_to, parts_in, recovered_records, restart_outs, tolds_again}
use Words.{at_place, new_tree, node_by, if◌then◌else◌, Bool, Start, Seen}
use Words.body
use Rattle.arj_law_runs.proofs.Terms
use Terms.{AllSayEnds, AreOfCommits, IsSure, SaysEndsIn, Agree, AreBegun, AreCounted, paths_of, IsTree, Paths, IsClaimsOf, AllFit}
use Terms.{IsGoodNode, says_queries, none_in, sure_records, begun_tree, path_found, restart_well, get_more, all_both, all_flat, all_map}
use Terms.{IsAtStarts, disk_by, restart_of, true_inc, true_records, IsGood, IsGoodOf, IsGoodDisk, IsGoodPlace, IsUp, down, Up, Walks}
use Rattle.arj_law_parts.proofs.parts
use parts.{Begun.counted_anew, EndsSaid.sure_new, Numbered.num_new, ObjectsAsked.obj_new, TrueSteps.faithful_new, TrueSteps.later_home}
use Rattle.arj_law_parts.specs.{moves.Walks.Stops, parts.Claims.IsFaithful}
use Rattle.arj_law_runs.proofs.kept
use kept.Handled.{counted_of, mine_anew, others_of, place_of, stopped_good}
use kept.Walked.{Others, are_kept, down_good, walked}

-- ---- a restart

-- what a node says as it starts is so
restart_claims : (hd : Header) (n inc : ℕ) (d : Disk) → (let v = parts_in n inc d in IsFaithful v.coord) →
    (let v = parts_in n inc d in AllByRecursion (IsClaimsOf v.coord) (restart_outs hd n inc d))
restart_claims hd n inc d faithful = all_both P four hellos
    (all_both P three queries (all_both P two tolds (all_both P one records (tt, (tt, (tt, (tt, back (naming_at n inc d.names)))))
    (tt, all_map P (λ (e : Uid × Intent). Say (body.Recovered n e.0)) d.intents (λ e. tt))) (true_inc n inc c tolds (true_records c
    faithful)).0) (all_map P query_about (uid_set (prepared_actions d.store ++ prepared_actions d.names)) (λ w u s. absurd s)))
    (all_map P (hello_to n inc) (without_number n (numbers_to hd.nodes)) (λ w u s. absurd s))
  where
    c : Coord
    c = record (new_coord n inc) { telling = d.intents }

    P : Effect → Type 0
    P e = IsClaimsOf c e

    back : (o : Option Naming) → AllByRecursion (IsClaimsOf c) (naming_back o)
    back None = tt
    back (Some o) = all_flat (IsClaimsOf c) (λ (e : ℕ × Named). back_lines e.1) o.objects (λ e. all_map (IsClaimsOf c) _ e.1.rows (λ r. tt))

    one : List Effect
    one = Do Look ∷ Do (PutInc inc) ∷ Say (body.Up n inc) ∷ Do Look ∷ naming_back (naming_at n inc d.names)

    records : List Effect
    records = Do Look ∷ recovered_records n d.intents

    two : List Effect
    two = one ++ records

    tolds : List Effect
    tolds = tolds_again d.intents

    three : List Effect
    three = two ++ tolds

    queries : List Effect
    queries = map query_about (uid_set (prepared_actions d.store ++ prepared_actions d.names))

    four : List Effect
    four = three ++ queries

    hellos : List Effect
    hellos = map (hello_to n inc) (without_number n (numbers_to hd.nodes))

-- and what it says of ends
restart_says : (hd : Header) (n inc : ℕ) (d : Disk) → (let v = parts_in n inc d in AreOfCommits d.intents v.coord.tree) →
    (let v = parts_in n inc d in AllSayEnds v.coord.tree (restart_outs hd n inc d))
restart_says hd n inc d records = all_both P four hellos
    (all_both P three queries (all_both P two tolds (all_both P one recovered (tt, (tt, (tt, (tt, back (naming_at n inc d.names)))))
    (tt, all_map P (λ (e : Uid × Intent). Say (body.Recovered n e.0)) d.intents (λ e. tt))) (sure_records (new_tree n inc) d.intents
    records)) (says_queries (new_tree n inc) (uid_set (prepared_actions d.store ++ prepared_actions d.names)))) (all_map P (hello_to n inc)
    (without_number n (numbers_to hd.nodes)) (λ w. record { brings = λ u e k. none_in u e k; tells = λ u e k. none_in u e k }))
  where
    P : Effect → Type 0
    P e = SaysEndsIn (new_tree n inc) e

    back : (o : Option Naming) → AllByRecursion (SaysEndsIn (new_tree n inc)) (naming_back o)
    back None = tt
    back (Some o) = all_flat (SaysEndsIn (new_tree n inc)) (λ (e : ℕ × Named). back_lines e.1) o.objects
        (λ e. all_map (SaysEndsIn (new_tree n inc)) _ e.1.rows (λ r. tt))

    one : List Effect
    one = Do Look ∷ Do (PutInc inc) ∷ Say (body.Up n inc) ∷ Do Look ∷ naming_back (naming_at n inc d.names)

    recovered : List Effect
    recovered = Do Look ∷ recovered_records n d.intents

    two : List Effect
    two = one ++ recovered

    tolds : List Effect
    tolds = tolds_again d.intents

    three : List Effect
    three = two ++ tolds

    queries : List Effect
    queries = map query_about (uid_set (prepared_actions d.store ++ prepared_actions d.names))

    four : List Effect
    four = three ++ queries

    hellos : List Effect
    hellos = map (hello_to n inc) (without_number n (numbers_to hd.nodes))

abbrev rest : List Effect → List Effect
rest [] = []
rest (e ∷ es) = es

module _ (hd : Header) (e k : ℕ) (d : Disk) (M : Seen) (good : IsGood (down k d M)) where
  abbrev v : Parts
  v = parts_in k (d.inc + 1) d

  abbrev raised : Disk
  raised = record d { inc = d.inc + 1 }

  abbrev begun : AreBegun good.0
  begun = let w = good.1 in w.begun

  abbrev disk : IsGoodDisk good.0 k d
  disk = let p = place_of k d None M good in p.disk

  abbrev count : ℕ
  count = (counted_of k d None M good).0

  counted : AreCounted k d.inc count good.0
  counted = (counted_of k d None M good).1

  anew : AreCounted k (d.inc + 1) 0 good.0
  anew = counted_anew k d.inc (d.inc + 1) count good.0 counted (omega arith)

  others : Others good.0 k (d.inc + 1) v M
  others = others_of k d None M good (d.inc + 1) v (mine_anew k d None M good (d.inc + 1) (omega arith))

  raised_good : IsGoodDisk good.0 k raised
  raised_good = record { tops = disk.tops; own = later_home k d.inc (d.inc + 1) d.intents (omega arith) disk.own }

  faithful : IsFaithful v.coord
  faithful = faithful_new good.0 k d.inc (d.inc + 1) count d.intents counted (omega arith) disk.tops disk.own

  sure : IsSure v.coord
  sure = sure_new good.0 k d.inc (d.inc + 1) count d.intents counted (omega arith) disk.tops

  well : (paths : Paths) → IsTree paths → Agree good.0 paths → IsGoodNode good.0 paths v × AllFit good.0 (restart_outs hd k (d.inc + 1) d)
  well paths tree agree = restart_well good.0 begun paths tree agree hd k count d counted disk.tops

  started : IsUp good.0 M.sent M.labels k (d.inc + 1) v
  started = record {
    good = λ paths tree agree. (well paths tree agree).0;
    node = refl;
    inc = refl;
    server = refl;
    faithful = faithful;
    counted = anew;
    known = λ l j is. let no_way : ◌≡◌ {A = Option ℕ} None (Some j) = is in cc;
    voted = λ w is. let no_way : false ≡ true = is in cc;
    sure = sure;
    numbered = num_new k (d.inc + 1) d.intents;
    objects = obj_new k (d.inc + 1) d.intents;
  }

  stops_look : Stops (IsGoodOf good.0) e k Look d M
  stops_look Before = stopped_good k d None M good e
  stops_look After = stopped_good k d None M good e
  stops_look (InPart which) = stopped_good k d None M good e

  stops_inc : Stops (IsGoodOf good.0) e k (PutInc (d.inc + 1)) d M
  stops_inc Before = stopped_good k d None M good e
  stops_inc After = down_good good.0 k (d.inc + 1) v 0 anew e raised M others raised_good refl
  stops_inc (InPart which) = stopped_good k d None M good e

  pub restart_good : Walks (IsGoodOf good.0) e k (restart_outs hd k (d.inc + 1) d) (Up (IsGoodOf good.0) k v) d M
  restart_good = (
    stops_look,
    (
      stops_inc,
      walked good.0 k (d.inc + 1) v 0 anew e (rest (rest (restart_outs hd k (d.inc + 1) d))) raised M
          (are_kept good.0 k (d.inc + 1) v refl refl (rest (rest (restart_outs hd k (d.inc + 1) d)))
          (well (paths_of good.0) (begun_tree good.0 begun) (path_found good.0 begun)).1.1.1
          (restart_claims hd k (d.inc + 1) d faithful).1.1 (restart_of hd k d).1.1 (restart_says hd k (d.inc + 1) d sure.records).1.1)
          others raised_good refl started sure.records,
    ),
  )

-- ---- at first

got_map : {A B : Type 0} (f : A → B) (xs : List A) (k : ℕ) (b : B) → slice_get (map f xs) k ≡ Some b →
    (a : A) × (slice_get xs k ≡ Some a) × (f a ≡ b)
got_map {A} {B} f [] k b is = let no_way : ◌≡◌ {A = Option B} None (Some b) = is in cc
got_map {A} {B} f (x ∷ xs) zero b is = (x, refl, (let s : ◌≡◌ {A = Option B} (Some (f x)) (Some b) = is in cc))
got_map f (x ∷ xs) (suc k) b is = got_map f xs k b is

as_many : (n : ℕ) → length (numbers_to n) ≡ n
as_many zero = refl
as_many (suc n) = length-append (numbers_to n) (suc n ∷ []) ∙ (λ i. as_many n i + 1) ∙ next n
  where
    next : (n : ℕ) → n + 1 ≡ suc n
    next n = omega arith

number_at : (n k j : ℕ) → slice_get (numbers_to n) k ≡ Some j → j ≡ suc k
number_at zero k j is = let no_way : ◌≡◌ {A = Option ℕ} None (Some j) = is in cc
number_at (suc n) k j is =
    ⊎_elim (λ old. number_at n k j old) (λ new. sym new.1 ∙ ap suc (sym (new.0 ∙ as_many n))) (get_more k (suc n) j (numbers_to n) is)

module _ (hd : Header) (st : Start) where
  pub first_at : (k : ℕ) (n : Node) → at_place k (map (node_by hd st) (numbers_to hd.nodes)) ≡ Some n → node_by hd st k ≡ n
  first_at zero n is = let no_way : ◌≡◌ {A = Option Node} None (Some n) = is in cc
  first_at (suc k) n is = let q = got_map (node_by hd st) (numbers_to hd.nodes) k n is in
      ap (node_by hd st) (sym (number_at hd.nodes k q.0 q.1)) ∙ q.2

  -- the memory of one that is up is new
  pub live_first : (k : ℕ) (t : Parts) → (node_by hd st k).live ≡ Some t → parts_in k (st.incs k + 1) (disk_by hd st k) ≡ t
  live_first k t live = by (st.up k) live
    where
      by : (b : Bool) → (if b then Some (parts_in k (st.incs k + 1) (disk_by hd st k)) else None) ≡ Some t →
          parts_in k (st.incs k + 1) (disk_by hd st k) ≡ t
      by true up = cc up
      by false up = absurd (cc up)

  pub first_up : (k : ℕ) (n : Node) (t : Parts) → at_place k (map (node_by hd st) (numbers_to hd.nodes)) ≡ Some n → n.live ≡ Some t →
      parts_in k (st.incs k + 1) (disk_by hd st k) ≡ t
  first_up k n t is live = live_first k t (ap (λ (z : Node). z.live) (first_at k n is) ∙ live)

  none_counted : (k i count : ℕ) → AreCounted k i count []
  none_counted k i count a u there = absurd (in_from a [] there)

  started_up : (k : ℕ) → IsUp [] [] [] k (st.incs k + 1) (parts_in k (st.incs k + 1) (disk_by hd st k))
  started_up k = let i = st.incs k in record {
    good =
        λ paths tree agree. (restart_well [] tt paths tree agree hd k 0 (record (disk_by hd st k) { inc = i }) (none_counted k i 0) tt).0;
    node = refl;
    inc = refl;
    server = refl;
    faithful = faithful_new [] k i (i + 1) 0 [] (none_counted k i 0) (omega arith) tt tt;
    counted = none_counted k (i + 1) 0;
    known = λ l j is. let no_way : ◌≡◌ {A = Option ℕ} None (Some j) = is in cc;
    voted = λ w is. let no_way : false ≡ true = is in cc;
    sure = sure_new [] k i (i + 1) 0 [] (none_counted k i 0) (omega arith) tt;
    numbered = num_new k (i + 1) [];
    objects = obj_new k (i + 1) [];
  }

  place_first : (k : ℕ) → IsGoodPlace [] [] [] k (node_by hd st k)
  place_first k = by (st.up k)
    where
      sure : IsSure (record (new_coord k (st.incs k + 1)) { telling = [] })
      sure = sure_new [] k (st.incs k) (st.incs k + 1) 0 [] (none_counted k (st.incs k) 0) (omega arith) tt

      by : (b : Bool) → IsGoodPlace [] [] [] k (record {
        number = k;
        disk = disk_by hd st k;
        live = if b then Some (parts_in k (st.incs k + 1) (disk_by hd st k)) else None;
      })
      by true = record { disk = record { tops = tt; own = tt }; memory = started_up k; records = sure.records }
      by false = record { disk = record { tops = tt; own = tt }; memory = (0, none_counted k (st.incs k + 1) 0); records = tt }

-- before any action began
pub first_of : (hd : Header) → IsAtStarts hd (IsGoodOf [])
first_of hd st formed = record {
  begun = tt;
  places = λ k n is. subst (IsGoodPlace [] [] [] k) (first_at hd st k n is) (place_first hd st k);
  fits = λ p there. absurd there;
  senders = λ p u there. absurd there;
  so = λ p n there. absurd there;
}

pub first_good : (hd : Header) → IsAtStarts hd IsGood
first_good hd st formed = ([], first_of hd st formed)
