-- What a coordinator does leaves its actions their labels.
use Rattle.arj_law_parts.proofs.Words
use Words.{◌≡◌, ◌∙◌, ℕ, zero, suc, Bool, true, false, cond, List, [], ◌∷◌, ◌++◌, length, map, nat_le, refl, sym, ap, Option, Some, None}
use Words.{slice_get, slice_set, ⊤, is_at, lookup, length-map, Reply, actor, again_all, heard, Lost, participants, plan_of, Calling}
use Words.{Committing, Coord, Doing, Idle, change_doing, doing_of, on_doing, Effect, Intent, acked, all_aborted, ended, has, Input, acts}
use Words.{Branch, Tree, at_place, branch_of, doomed_at, doomed_branch, ended_at, ended_branch, family_of, root_of, set_place, with_family}
use Words.{Asked, End, Kind, Label, Uid, label_cmp, uids_of}
use Words.input
use Words.ending
use Rattle.arj_law_parts.proofs.Terms.{names_of}
use Rattle.arj_law_parts.proofs.coordinator
use coordinator.Trace.{Came, Takes, noted, Answers, Move, Begins, Waits, Turns, Rests, Dooms, CommitsIn, EndsAt, TakesPart, Trace}
use coordinator.Trace.{trace_keeps}
use coordinator.Walks.{acts_trace, heard_trace, acked_trace, again_keeps}
use Rattle.arj_law_parts.specs.steps.Named.{HasNames}

-- labels and actions at work are the same, and no action was begun
pub record SameNames (c e : Coord) : Type 0 where
  pub labels : e.labels ≡ c.labels
  pub names : names_of e ≡ names_of c
  pub count : length e.tree.branches ≡ length c.tree.branches

same : (c : Coord) → SameNames c c
same c = record { labels = refl; names = refl; count = refl }

on : (a b c : Coord) → SameNames a b → SameNames b c → SameNames a c
on a b c first second =
    record { labels = second.labels ∙ first.labels; names = second.names ∙ first.names; count = second.count ∙ first.count }

pub names_kept : (c e : Coord) → SameNames c e → HasNames c → HasNames e
names_kept c e s has = record {
  named = λ l j is. let n = has.named l j (ap (λ m. lookup (is_at (label_cmp l)) m) (sym s.labels) ∙ is) in
      (n.0, ap (at_place j) s.names ∙ n.1, n.2);
  count = sym (length-map e.doings (λ (d : Doing). d.label))
      ∙ (ap length s.names ∙ (length-map c.doings (λ (d : Doing). d.label) ∙ (has.count ∙ sym s.count)));
}

-- ---- pieces

length_set : {A : Type 0} (xs : List A) (k : ℕ) (y : A) → length (set_place k y xs) ≡ length xs
length_set xs zero y = refl
length_set xs (suc i) y = by xs i
  where
    by : (zs : List _) (j : ℕ) → length (slice_set zs j y) ≡ length zs
    by [] j = refl
    by (z ∷ zs) zero = refl
    by (z ∷ zs) (suc j) = ap suc (by zs j)

map_set : (ds : List Doing) (i : ℕ) (d e : Doing) → slice_get ds i ≡ Some d → e.label ≡ d.label →
    map (λ (x : Doing). x.label) (slice_set ds i e) ≡ map (λ (x : Doing). x.label) ds
map_set [] i d e at is = refl
map_set (x ∷ xs) zero d e at is = let here : x ≡ d = cc in
    λ i. (is ∙ ap (λ (y : Doing). y.label) (sym here)) i ∷ map (λ (y : Doing). y.label) xs
map_set (x ∷ xs) (suc i) d e at is = ap (λ ls. x.label ∷ ls) (map_set xs i d e at is)

doing_at : (u : Uid) (c : Coord) (d : Doing) → doing_of u c ≡ Some d → at_place u.num c.doings ≡ Some d
doing_at u c d is = by (_) is
  where
    by : (o : Bool) → cond o (at_place u.num c.doings) None ≡ Some d → at_place u.num c.doings ≡ Some d
    by true e = e
    by false e = let no_way : ◌≡◌ {A = Option Doing} None (Some d) = e in cc

-- what changes at one action at work leaves its label
same_on : (u : Uid) (f : Doing → Doing) (c : Coord) → ((d : Doing) → (f d).label ≡ d.label) → SameNames c (on_doing u f c)
same_on u f c keeps = by (doing_of u c) refl
  where
    put : (k : ℕ) (d : Doing) → at_place k c.doings ≡ Some d →
        map (λ (x : Doing). x.label) (set_place k (f d) c.doings) ≡ map (λ (x : Doing). x.label) c.doings
    put zero d at = refl
    put (suc k) d at = map_set c.doings k d (f d) at (keeps d)

    by : (o : Option Doing) → doing_of u c ≡ o → SameNames c (change_doing f u c o)
    by None is = same c
    by (Some d) is = record { labels = refl; names = put u.num d (doing_at u c d is); count = refl }

-- a tree with as many branches
same_tree : (c : Coord) (t : Tree) → length t.branches ≡ length c.tree.branches → SameNames c (record c { tree = t })
same_tree c t is = record { labels = refl; names = refl; count = is }

same_doomed : (u : Uid) (t : Tree) → length (doomed_at u t).branches ≡ length t.branches
same_doomed u t = by (branch_of u t)
  where
    by : (o : Option Branch) → length (doomed_branch u t o).branches ≡ length t.branches
    by None = refl
    by (Some b) = length_set t.branches u.num (record b { doomed = true })

same_ended : (u : Uid) (e : End) (t : Tree) → length (ended_at u e t).branches ≡ length t.branches
same_ended u e t = by (branch_of u t)
  where
    listed : (b : Branch) (x : Bool) → (let m : Tree = record t { branches = set_place u.num (record b { ended = Some e }) t.branches } in
        length (cond x m (with_family (root_of b.path) (let f = family_of (root_of b.path) m in
        record f { ends = f.ends ++ (u, e) ∷ [] }) m)).branches) ≡ length t.branches
    listed b true = length_set t.branches u.num (record b { ended = Some e })
    listed b false = length_set t.branches u.num (record b { ended = Some e })

    by : (o : Option Branch) → length (ended_branch u e t o).branches ≡ length t.branches
    by None = refl
    by (Some b) = listed b (nat_le (length (uids_of b.path)) 1)

-- ---- small steps

same_end : (u : Uid) (e : End) (c : Coord) → SameNames c (ended u e c)
same_end u e c =
    let m : Coord = record c { tree = ended_at u e c.tree } in
    on c m (ended u e c) (same_tree c (ended_at u e c.tree) (same_ended u e c.tree))
    (same_on u (λ (d : Doing). record d { now = Idle }) m (λ d. refl))

pub same_all : (us : List Uid) (c : Coord) → SameNames c (all_aborted us c).part
same_all [] c = same c
same_all (u ∷ us) c = on c (ended u ending.Abort c) (all_aborted us (ended u ending.Abort c)).part (same_end u ending.Abort c)
    (same_all us (ended u ending.Abort c))

-- no action begins
abbrev NoBegin : Came → Type 0
NoBegin (Takes (input.Begin l k parent) intents) = ⊥
NoBegin _ = ⊤

same_move : {c : Coord} {came : Came} → NoBegin came → (e f : Coord) → Move c came e f → SameNames c e → SameNames c f
same_move other _ _ (Begins l k parent intents) s = absurd other
same_move other _ _ (Waits t e is) s =
    on _ e _ s (same_on (actor t.path) (λ (d : Doing). record d { req = t.req; now = Calling t }) e (λ d. refl))
same_move other _ _ (Turns t k _ (Answers from a r intents d _ found is waits)) s =
    record { labels = s.labels; names = s.names; count = s.count }
same_move other _ _ (Rests t k e g turn is) s = on _ e _ s (same_on (actor t.path) (λ (d : Doing). record d { now = Idle }) e (λ d. refl))
same_move other _ _ (Dooms t k e n turn is) s = let f = noted t (Lost n true) e in
    on _ f _ s (same_tree f (doomed_at (actor t.path) f.tree) (same_doomed (actor t.path) f.tree))
same_move {c} other _ _ (CommitsIn u m is) s =
    on c c _ s (same_on u (λ (d : Doing). record d { req = (plan_of m).req; now = Committing m }) c (λ d. refl))
same_move other _ _ (EndsAt u how f e ends) s = on _ e _ s (same_end u how e)
same_move {c} other _ _ (TakesPart u p ends) s = on c (ended (actor p.path) ending.Commit c) _ s
    (same_on (actor p.path) (λ (d : Doing). record d { took = participants p }) (ended (actor p.path) ending.Commit c) (λ d. refl))
same_move other _ _ _ s = record { labels = s.labels; names = s.names; count = s.count }

same_so : {c : Coord} {came : Came} {e : Coord} {outs : List Effect} → NoBegin came → Trace c came c outs e → SameNames c e
same_so {c} other t = trace_keeps (SameNames c) (same_move other) t (same c)

pub same_heard : (from : ℕ) (a : Asked) (r : Reply) (intents : List (Uid × Intent)) (c : Coord) →
    SameNames c (heard from a r intents c).part
same_heard from a r intents c = same_so tt (heard_trace c from a r intents)

pub same_acts : (i : Input) (intents : List (Uid × Intent)) (c : Coord) →
    ((l : Label) (k : Kind) (parent : Option Label) → i ≡ input.Begin l k parent → ⊥) → SameNames c (acts i intents c).part
same_acts i intents c other = same_so (none i other) (acts_trace c i intents)
  where
    none : (j : Input) → ((l : Label) (k : Kind) (parent : Option Label) → j ≡ input.Begin l k parent → ⊥) → NoBegin (Takes j intents)
    none (input.Begin l k parent) never = never l k parent refl
    none _ never = tt

pub same_again : (ds : List Doing) (c : Coord) → SameNames c (again_all ds c).part
same_again ds c = again_keeps (SameNames c) (λ root w e s. record { labels = s.labels; names = s.names; count = s.count }) ds c (same c)

pub same_acked : (from : ℕ) (u : Uid) (intents : List (Uid × Intent)) (c : Coord) → SameNames c (acked from u intents c).part
same_acked from u intents c = same_so tt (acked_trace c from u intents)
