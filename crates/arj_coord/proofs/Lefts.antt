-- Decisions and acknowledgements, by the record that is put or left.
use Rattle.std.proofs.Common.{◌≡◌, ◌++◌, ℕ, Bool, true, false, List, [], ◌∷◌, refl, ap, sym, ◌∙◌, subst, Option, Some, None, if◌then◌else◌}
use Rattle.std.proofs.Common.{arith}
use Rattle.std.proofs.lemmas.List.{append_assoc}
use Rattle.std.proofs.lemmas.Bool.Decides.{nat_tests}
use Rattle.std.specs.Prelude.{◌==◌, length, option_map, is_some}
use Rattle.arj_commit.specs.Tolds.{work_of}
use Rattle.arj_coord.specs.Ended.{record_in, awaiting, without_node, left_in, left_by}
use Rattle.arj_intent.specs.Records.{shown}
use Rattle.arj_intent.specs.declared.intent.Intent as disk
use Rattle.arj_protocol.specs.Ask.{actor}
use Rattle.arj_protocol.specs.Commit.{Plan, participants, has_record}
use Rattle.arj_protocol.specs.Coord.{Coord}
use Rattle.arj_protocol.specs.Effect.{Effect, Intent, Did, Served, Do, PutIntent, RemoveIntent}
use Rattle.arj_protocol.specs.Ending.{acked_by, acked_left, awaits, record_work, tolds_let_go}
use Rattle.arj_protocol.specs.Order.{has, at_uid, put_uid, without_uid, without_number}
use Rattle.arj_protocol.specs.Tree.{root_of}
use Rattle.arj_protocol.specs.Words.{Uid}

-- the record of a decision
pub record_is : (i : Option disk.Intent) (p : Plan) → work_of i ≡ record_work (actor p.path) p → option_map shown i ≡ record_in p
record_is i p is = by i (has_record p) is
  where
    by : (i : Option disk.Intent) (t : Bool) →
        work_of i ≡ (if t then Do (PutIntent (actor p.path) (record { root = root_of p.path; nodes = participants p })) ∷ [] else [])
        → option_map shown i ≡ (if t then Some (record { root = root_of p.path; nodes = participants p }) else None)
    by None true is = absurd (cc is)
    by None false is = refl
    by (Some i) true is = let same : shown i ≡ record { root = root_of p.path; nodes = participants p } = cc is in ap Some same
    by (Some i) false is = absurd (cc is)

-- what is awaited of a decision
pub awaits_is : (u : Uid) (p : Plan) (c : Coord) → awaiting u (record_in p) c ≡ awaits u p c
awaits_is u p c = by (has_record p)
  where
    by : (t : Bool) →
        awaiting u (if t then Some (record { root = root_of p.path; nodes = participants p }) else None) c ≡ (if t then record c {
          telling =
              put_uid u (record { root = root_of p.path; nodes = participants p }) c.telling;
        } else c)
    by true = refl
    by false = refl

-- an acknowledgement that isn't awaited
pub record Voids (s : Served Coord (Unit {0})) (c : Coord) : Type 0 where
  pub part : s.part ≡ c
  pub outs : s.outs ≡ []
  pub none : is_some s.reply ≡ false

pub void_is : (from : ℕ) (u : Uid) (intents : List (Uid × Intent)) (c : Coord) (o : Option Intent) → without_node from o ≡ None →
    Voids (acked_by from u intents c o) c
void_is from u intents c None is = record { part = refl; outs = refl; none = refl }
void_is from u intents c (Some i) is = by (has i.nodes from) is
  where
    by : (t : Bool) → (if t then Some (record i { nodes = without_number from i.nodes }) else None) ≡ None
        → Voids (if t then acked_left u i intents c (without_number from i.nodes) else record { part = c; outs = []; reply = None }) c
    by true is = absurd (cc is)
    by false is = record { part = refl; outs = refl; none = refl }

-- one that is
pub record Takes (s : Served Coord (Unit {0})) (d : Did Coord) : Type 0 where
  pub part : s.part ≡ d.part
  pub outs : s.outs ≡ d.outs
  pub some : is_some s.reply ≡ true

pub taken_is : (from : ℕ) (u : Uid) (intents : List (Uid × Intent)) (c : Coord) (o : Option Intent) (l : Intent) →
    without_node from o ≡ Some l → Takes (acked_by from u intents c o) (left_by u l intents c)
taken_is from u intents c None l is = absurd (cc is)
taken_is from u intents c (Some i) l is = by (has i.nodes from) is
  where
    left : (ns : List ℕ) → Takes (acked_left u i intents c ns) (left_in u (record i { nodes = ns }) intents c ns)
    left [] = record { part = refl; outs = refl; some = refl }
    left (n ∷ ns) = record { part = refl; outs = refl; some = refl }

    by : (t : Bool) → (if t then Some (record i { nodes = without_number from i.nodes }) else None) ≡ Some l
        → Takes (if t then acked_left u i intents c (without_number from i.nodes) else record {
          part = c;
          outs = [];
          reply =
              None;
        }) (left_by u l intents c)
    by true is =
        let same : record i { nodes = without_number from i.nodes } ≡ l = cc is in
        subst (λ (m : Intent). Takes (acked_left u i intents c (without_number from i.nodes)) (left_by u m intents c)) same (left (without_number from i.nodes))
    by false is = absurd (cc is)

-- nodes are left
pub record Keeps (d : Did Coord) (u : Uid) (i : Intent) (c : Coord) : Type 0 where
  pub part : d.part ≡ record c { telling = put_uid u i c.telling }
  pub outs : d.outs ≡ []

pub left_some : (u : Uid) (i : Intent) (intents : List (Uid × Intent)) (c : Coord) (ns : List ℕ) → (length ns ≡ 0 → ⊥) →
    Keeps (left_in u i intents c ns) u i c
left_some u i intents c [] some = absurd (some refl)
left_some u i intents c (n ∷ ns) some = record { part = refl; outs = refl }

-- none is left
pub record Lets (d : Did Coord) (u : Uid) (intents : List (Uid × Intent)) (c : Coord) : Type 0 where
  pub part : d.part ≡ record c { telling = without_uid u c.telling }
  pub outs : d.outs ≡ Do (RemoveIntent u) ∷ tolds_let_go u (without_uid u intents) c (at_uid u intents)

pub left_none : (u : Uid) (i : Intent) (intents : List (Uid × Intent)) (c : Coord) (ns : List ℕ) → length ns ≡ 0 →
    Lets (left_in u i intents c ns) u intents c
left_none u i intents c [] none = record { part = refl; outs = refl }
left_none u i intents c (n ∷ ns) none = absurd (cc none)

-- a list that is empty
pub emptied : (b : Bool) (ns ms : List ℕ) → b ≡ true → b ≡ (length ns == 0) → ns ≡ ms → length ms ≡ 0
emptied b ns ms is exact same =
    let yes : (length ns == 0) ≡ true = sym exact ∙ is in
    let none : length ns ≡ 0 = grind (arith, nat_tests, yes) in
    ap length (sym same) ∙ none

-- what is done where none is left
pub left_outs : (u : Uid) (i : Intent) (intents : List (Uid × Intent)) (c d : Coord) (before mid after : List Effect) → length i.nodes ≡ 0 →
    d ≡ record c { telling = without_uid u c.telling }
    → mid ≡ before ++ Do (RemoveIntent u) ∷ [] → after ≡ mid ++ tolds_let_go u (without_uid u intents) d (at_uid u intents) →
    after ≡ before ++ (left_by u i intents c).outs
left_outs u i intents c d before mid after none d_is mid_is after_is =
    after_is ∙ (λ k. mid_is k ++ tolds_let_go u (without_uid u intents) (d_is k) (at_uid u intents))
    ∙ append_assoc before (Do (RemoveIntent u) ∷ []) (tolds_let_go u (without_uid u intents) c (at_uid u intents)) ∙ ap (λ o. before ++ o) (sym (left_none u i intents c i.nodes none).outs)
