-- Whose the machine's decisions are: actions of the journal.
use Rattle.arj_law_parts.proofs.Words
use Words.{◌≡◌, ◌==◌, ◌&&◌, ℕ, List, [], ◌∷◌, length, true, refl, inl, inr, ⊎_elim, eqb-true, Contains, ap, ◌∙◌, option_map, and_parts}
use Words.{or_cases, uid_is, In, in_to, uid_number, Body, Line, Uid, name}
use Words.body
use Rattle.arj_law_disk_view.proofs.Terms.{Act, acts, Action, act_of, Whole, World, decided, begins, was_begun, is_of_kind, is_top_kind}
use Rattle.arj_law_runs.proofs.journal.Models.{in_later}
use Rattle.arj_model.specs.Actions.{acts_after, acts_from}

-- who began by a line is an action of the journal
begun_act : (u : Uid) (xs : List Act) (ls : List Line) → was_begun u ls ≡ true → (a : Act) × In a (acts_from xs ls) × (a.uid ≡ u)
begun_act u xs [] is = absurd (cc is)
begun_act u xs (l ∷ ls) is =
    ⊎_elim (λ here. by l.body here) (λ rest. begun_act u (acts_after xs l.body) ls rest) (or_cases (begins u l.body) (was_begun u ls) is)
  where
    by : (b : Body) → begins u b ≡ true → (a : Act) × In a (acts_from (acts_after xs b) ls) × (a.uid ≡ u)
    by (body.Began m k v p) e = let new : Act = record { id = length xs; label = name m; kind = k; uid = v; parent = option_map name p } in
        (new, in_later ls (acts_after xs (body.Began m k v p)) new (inl refl), uid_is v u e)
    by b e = absurd (cc e)

-- a top of the kinds that were begun is one of these actions
top_from : (begun : List Action) (t : ℕ) → is_of_kind is_top_kind begun t ≡ true → (a : Action) × In a begun × (uid_number (act_of a) ≡ t)
top_from [] t on = absurd (cc on)
top_from (c ∷ begun) t on = ⊎_elim
    (λ here. let p = and_parts (uid_number (act_of c) == t) (is_top_kind c.kind) here in
    (c, inl refl, eqb-true (uid_number (act_of c)) t p.0))
    (λ rest. let r = top_from begun t rest in (r.0, inr r.1, r.2))
    (or_cases ((uid_number (act_of c) == t) && is_top_kind c.kind) (is_of_kind is_top_kind begun t) on)

-- who is decided has begun its commit
pub decided_begun : (W : World) → Whole W → (t : ℕ) → decided W.disk t ≡ true → W.disk.begun t ≡ true
decided_begun W whole t d = let c = whole.core in
    ⊎_elim (λ conf. c.fresh.conf t conf) (λ light. c.fresh.light t light) (c.coordinators.decided_taken t d)

-- whose the number is
pub whose_it_is : (begun : List Action) (lines : List Line) (t : ℕ) → is_of_kind is_top_kind begun t ≡ true →
    ((a : Action) → Contains begun a → was_begun (act_of a) lines ≡ true) → (a : Act) × Contains (acts lines) a × (uid_number a.uid ≡ t)
whose_it_is begun lines t top said =
    let a = top_from begun t top in
    let x = begun_act (act_of a.0) [] lines (said a.0 (in_to a.0 begun a.1)) in
    (x.0, in_to x.0 (acts lines) x.1, ap uid_number x.2 ∙ a.2)
