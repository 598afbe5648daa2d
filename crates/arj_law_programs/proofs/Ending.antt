-- Actions of programs begin and commit, as programs hear it.
use Rattle.std.proofs.Common.{◌≡◌, ◌∙◌, ◌≤◌, ◌⊎◌, inl, inr, ℕ, ◌+◌, List, [], ◌∷◌, ◌++◌, length, map, refl, ap, sym, subst, arith, true}
use Rattle.std.proofs.Common.{Option, Some, None, ◌==◌, append-nil, eq-eqb, if◌then◌else◌}
use Rattle.std.specs.List.{AllByRecursion}
use Rattle.std.specs.Option.{option_map}
use Rattle.std.specs.Str.{bytes_eq}
use Rattle.std.proofs.lemmas.List.{map-append}
use Rattle.arj_base.specs.declared.uid.Uid.{Uid}
use Rattle.arj_journal.specs.declared.body.Body.TheVariants as body
use Rattle.arj_journal.specs.declared.body.Kind.{Kind}
use Rattle.arj_journal.specs.declared.body.Kind.TheVariants as kind
use Rattle.arj_text.specs.Label.{name}
use Rattle.arj_text.specs.declared.label.Label.{Label}
use Rattle.arj_model.specs.Actions.{Act, Placed, act_in, has_end, path, put}
use Rattle.arj_progrun.proofs.Keeping.{waits_so}
use Rattle.arj_progrun.specs.Client.{Client, Level, commits_at, inner, inner_of, inside_at, is_phase, joins, stands, waits}
use Rattle.arj_progrun.specs.declared.phase.Phase.TheVariants as phase
use Rattle.arj_law_programs.proofs.Labels.{IsOf}
use Rattle.arj_law_programs.proofs.Acts.{In, IsGood, act_of_path, found_in, label_itself, path_alone, same_act, top_or_nested, all_in}
use Rattle.arj_law_programs.proofs.Hearing.{either, holds_so, stays, waits_label}
use Rattle.arj_law_programs.proofs.Keeping.{Mark, and_both, both_ways, chain_of, or_second, top_there}
use Rattle.arj_law_programs.proofs.Tracking.{Asks, Counted, Holds, IsOpen, Opens, Tracks, begun_elsewhere, end_in, ended_elsewhere}
use Rattle.arj_law_programs.proofs.Tracking.{inner_label}
use Rattle.arj_law_programs.proofs.Tracking.{inner_same, mark_of}
use Rattle.arj_law_programs.proofs.Turning.{IsApart, has_more, join_blocks, join_top, open_first, open_joined, open_nested}
use Rattle.arj_law_programs.proofs.Views.{Sound, View, act_begun, next_view, nothing_read}
use Rattle.arj_law_programs.specs.Counts.{told_by}

-- ---- an action begins

module _ (n : ℕ) (v : View) (asks : Asks) (ans : Counted) (c : Client) (l : Label) (k : Kind) (u : Uid) (p : Option Label) where
  abbrev a : Act
  a = act_begun v l k u p

  -- what is heard of it
  abbrev pub begun_heard : Client
  begun_heard = if waits phase.Beginning (name l) c then stands phase.Ready c else c

  as_read : Holds (record v { acts = a ∷ v.acts }) asks ans begun_heard → Holds (next_view n (body.Began l k u p) v) asks ans begun_heard
  as_read h = subst (λ w. Holds (record { acts = a ∷ v.acts; said = w.said; ends = w.ends }) asks ans begun_heard) (nothing_read v) h

  -- of another program
  pub hears_begun_elsewhere : act_in v.acts (name l) ≡ None → (IsOf c.number (name l) → ⊥) → Holds v asks ans c →
      Holds (next_view n (body.Began l k u p) v) asks ans begun_heard
  hears_begun_elsewhere new not h =
      as_read (either (Holds (record v { acts = a ∷ v.acts }) asks ans) (waits phase.Beginning (name l) c) (stands phase.Ready c) c
      (λ e. let t = holds_so v asks ans c phase.Beginning (waits_so phase.Beginning (name l) c e) h in
      absurd (not (subst (IsOf c.number) (inner_same c.top c.blocks ∙ waits_label phase.Beginning (name l) c e)
      (inner_label c.number (mark_of c.top) (map mark_of c.blocks) t.label t.labels))))
      (λ e. stays v (record v { acts = a ∷ v.acts }) asks ans ans c
      (begun_elsewhere v a asks ans ans c.phase c.number c.asked (mark_of c.top) (map mark_of c.blocks) new (λ m. omega arith)) h))

  -- the program waits for it
  it_waits : c.phase ≡ phase.Beginning → name l ≡ (let m = inner c in m.label) → waits phase.Beginning (name l) c ≡ true
  it_waits now same =
      and_both (is_phase phase.Beginning c.phase) (bytes_eq (let m = inner c in m.label) (name l))
      (ap (is_phase phase.Beginning) now) (ap (bytes_eq (let m = inner c in m.label)) same ∙ label_itself (let m = inner c in m.label))

  module _ (sound : Sound v) (new : act_in v.acts (name l) ≡ None) (now : c.phase ≡ phase.Beginning) where
    goes_on : name l ≡ (let m = inner c in m.label) →
        (Tracks v asks ans phase.Beginning c.number c.asked (mark_of c.top) (map mark_of c.blocks) →
        IsOpen (record v { acts = a ∷ v.acts }) (mark_of c.top) (map mark_of c.blocks)) → Holds v asks ans c →
        Holds (next_view n (body.Began l k u p) v) asks ans begun_heard
    goes_on same opened h =
        as_read (either (Holds (record v { acts = a ∷ v.acts }) asks ans) (waits phase.Beginning (name l) c) (stands phase.Ready c) c
        (λ e. let t = holds_so v asks ans c phase.Beginning now h in
        record { label = t.label; labels = t.labels; opens = opened t; slack = t.slack; calls = tt; done = tt })
        (λ e. both_ways (waits phase.Beginning (name l) c) (it_waits now same) e))

    pub hears_begun_top : c.blocks ≡ [] → name l ≡ (let t = c.top in t.label) → p ≡ None → k ≡ kind.Top → Holds v asks ans c →
        Holds (next_view n (body.Began l k u p) v) asks ans begun_heard
    hears_begun_top none same alone top h =
        goes_on (same ∙ ap (λ bs. let m = inner_of c.top bs in m.label) (sym none))
        (λ t. subst (λ bs. IsOpen (record v { acts = a ∷ v.acts }) (mark_of c.top) (map mark_of bs)) (sym none) (
          a,
          [],
          open_first v sound a new refl (mark_of c.top) (sym same)
              (subst (λ bs. Opens true v (mark_of c.top) (map mark_of bs)) none t.opens) top (ap (option_map name) alone),
        )) h

    pub hears_begun_nested : (b : Level) (bs : List Level) (q : Label) → c.blocks ≡ b ∷ bs → name l ≡ b.label → p ≡ Some q →
        name q ≡ (let m = inner_of c.top bs in m.label) → k ≡ kind.Nested → Holds v asks ans c →
        Holds (next_view n (body.Began l k u p) v) asks ans begun_heard
    hears_begun_nested b bs q is same some parent nested h =
        goes_on (same ∙ ap (λ ls. let m = inner_of c.top ls in m.label) (sym is))
        (λ t. subst (λ ls. IsOpen (record v { acts = a ∷ v.acts }) (mark_of c.top) (map mark_of ls)) (sym is)
        (pushed (subst (λ ls. Opens true v (mark_of c.top) (map mark_of ls)) is t.opens))) h
      where
        pushed : Opens true v (mark_of c.top) (mark_of b ∷ map mark_of bs) →
            IsOpen (record v { acts = a ∷ v.acts }) (mark_of c.top) (mark_of b ∷ map mark_of bs)
        pushed (none, (t, below, op)) = (
          t,
          a ∷ below,
          open_nested v sound a new refl t (mark_of c.top) below (mark_of b) (map mark_of bs) (sym same) none nested
              (ap (option_map name) some ∙ ap Some (parent ∙ sym (inner_same c.top bs))) op,
        )

-- ---- a commit

abbrev pub end_at : ℕ → Act → Placed ℕ
end_at n a = record { at = n; it = a.id }

module _ (n : ℕ) (v : View) (sound : Sound v) (asks : Asks) (ans : Counted) (c : Client) (l : Label) (a : Act)
    (found : act_in v.acts (name l) ≡ Some a) where
  abbrev w : View
  w = record v { ends = v.ends ++ end_at n a ∷ [] }

  abbrev pub committed_heard : Client
  committed_heard = if waits phase.Committing (name l) c then commits_at c.blocks c else c

  read_so : Holds (record v { ends = v.ends ++ end_at n a ∷ [] }) asks ans committed_heard →
      Holds (next_view n (body.Committed l) v) asks ans committed_heard
  read_so h =
      subst (λ z. Holds z asks ans committed_heard)
      (λ i. record {
        acts = v.acts;
        said = sym (append-nil v.said) i;
        ends = v.ends ++ put n (sym (ap (option_map (λ (x : Act). x.id)) found) i) [];
      }) h

  there : In a v.acts × (a.label ≡ name l)
  there = found_in v.acts (name l) a found

  unmoved : IsApart v.acts c.number a.id → Holds v asks ans c → Holds (record v { ends = v.ends ++ end_at n a ∷ [] }) asks ans c
  unmoved apart h =
      stays v (record v { ends = v.ends ++ end_at n a ∷ [] }) asks ans ans c
      (ended_elsewhere v sound (end_at n a) asks ans ans c.phase c.number c.asked (mark_of c.top) (map mark_of c.blocks) apart
      (λ m. omega arith)) h

  nothing_longer : (t : Act) (xs : List Act) (x : Act) → a ∷ [] ≡ t ∷ (xs ++ x ∷ []) → ⊥
  nothing_longer t [] x e = cc
  nothing_longer t (y ∷ xs) x e = cc

  -- of a top
  module _ (top : a.kind ≡ kind.Top) where
    no_nested : IsApart v.acts c.number a.id
    no_nested y own same =
        let one : y ≡ a = same_act v.acts sound.numbered y a (let o = own.0 in o.there) (let f = there in f.0) same in
        let no_way : kind.Nested ≡ kind.Top = sym own.1 ∙ ap (λ (x : Act). x.kind) one ∙ top in cc

    alone : (b : Mark) (t x : Act) (below : List Act) → b.label ≡ name l → path v.acts b.label ≡ t ∷ (chain_of below ++ x ∷ []) → ⊥
    alone b t x below same is = by (top_or_nested a (all_in IsGood v.acts sound.good a (let f = there in f.0)))
      where
        by : ((a.kind ≡ kind.Top) × (a.parent ≡ None)) ⊎ (a.kind ≡ kind.Nested) → ⊥
        by (inl (holds, none)) =
            nothing_longer t (chain_of below) x (sym (path_alone v.acts b.label a (ap (act_in v.acts) same ∙ found) none) ∙ is)
        by (inr nested) = let no_way : kind.Top ≡ kind.Nested = sym top ∙ nested in cc

    ends_so : (bs : List Level) → c.blocks ≡ bs → (let m = inner c in m.label) ≡ name l →
        Tracks v asks ans phase.Committing c.number c.asked (mark_of c.top) (map mark_of c.blocks) →
        Holds (record v { ends = v.ends ++ end_at n a ∷ [] }) asks ans (commits_at bs c)
    ends_so [] is same t =
        let more = ended_elsewhere v sound (end_at n a) asks ans ans phase.Committing c.number c.asked (mark_of c.top)
        (map mark_of c.blocks)
        no_nested (λ m. omega arith) t in
        record {
          label = t.label;
          labels = t.labels;
          opens = more.opens;
          slack = t.slack;
          calls = tt;
          done = (
            ap (map mark_of) is,
            ap (end_in (v.ends ++ end_at n a ∷ []))
                (ap (option_map (λ (x : Act). x.id)) (ap (act_in v.acts) (ap (λ bs. let m = inner_of c.top bs in m.label) (sym is)
                ∙ same) ∙ found))
                ∙ has_more v.ends (end_at n a) a.id ∙ or_second (has_end v.ends a.id) (a.id == a.id) (eq-eqb a.id a.id refl),
          );
        }
    ends_so (b ∷ bs) is same t =
        never (subst (λ ls. IsOpen v (mark_of c.top) (map mark_of ls)) is t.opens)
        (ap (λ ls. let m = inner_of c.top ls in m.label) (sym is) ∙ same)
      where
        never : IsOpen v (mark_of c.top) (mark_of b ∷ map mark_of bs) → b.label ≡ name l →
            Holds (record v { ends = v.ends ++ end_at n a ∷ [] }) asks ans (commits_at (b ∷ bs) c)
        never (t0, [], op) e = absurd op.stack
        never (t0, x ∷ below, op) e = absurd (alone (mark_of b) t0 x below e (let s = op.stack in s.0))

    pub hears_committed_top : Holds v asks ans c → Holds (next_view n (body.Committed l) v) asks ans committed_heard
    hears_committed_top h =
        read_so (either (Holds (record v { ends = v.ends ++ end_at n a ∷ [] }) asks ans) (waits phase.Committing (name l) c)
        (commits_at c.blocks c) c
        (λ e. ends_so c.blocks refl (waits_label phase.Committing (name l) c e)
        (holds_so v asks ans c phase.Committing (waits_so phase.Committing (name l) c e) h)) (λ e. unmoved no_nested h))

  -- of another program
  pub hears_committed_elsewhere : (IsOf c.number (name l) → ⊥) → Holds v asks ans c →
      Holds (next_view n (body.Committed l) v) asks ans committed_heard
  hears_committed_elsewhere not h =
      read_so (either (Holds (record v { ends = v.ends ++ end_at n a ∷ [] }) asks ans) (waits phase.Committing (name l) c)
      (commits_at c.blocks c) c
      (λ e. let t = holds_so v asks ans c phase.Committing (waits_so phase.Committing (name l) c e) h in
      absurd (not (subst (IsOf c.number) (inner_same c.top c.blocks ∙ waits_label phase.Committing (name l) c e)
      (inner_label c.number (mark_of c.top) (map mark_of c.blocks) t.label t.labels)))) (λ e. unmoved apart h))
    where
      apart : IsApart v.acts c.number a.id
      apart y own same =
          let one : y ≡ a = same_act v.acts sound.numbered y a (let o = own.0 in o.there) (let f = there in f.0) same in
          not (subst (IsOf c.number) (ap (λ (x : Act). x.label) one ∙ (let f = there in f.1)) (let o = own.0 in o.label))

  -- of the program's own nested action
  module _ (nested : a.kind ≡ kind.Nested) (now : c.phase ≡ phase.Committing) (same : (let m = inner c in m.label) ≡ name l) where
    joined_top : (b top : Level) → record { label = top.label; said = map told_by top.said ++ map told_by b.said } ≡ mark_of (joins b top)
    joined_top b top = λ i. record { label = top.label; said = sym (map-append told_by top.said b.said) i }

    joins_so : (b : Level) (bs : List Level) → IsOf c.number (let t = c.top in t.label) →
        AllByRecursion (λ (m : Mark). IsOf c.number m.label) (map mark_of bs) →
        ((k : List ℕ) → IsOf c.number k → length (asks k) ≤ ans k + 0) →
        IsOpen (record v { ends = v.ends ++ end_at n a ∷ [] }) (join_top (mark_of b) (mark_of c.top) (map mark_of bs)) (join_blocks
        (mark_of b) (map mark_of bs)) →
        Holds (record v { ends = v.ends ++ end_at n a ∷ [] }) asks ans (inside_at bs (joins b)
        (record c { blocks = bs; phase = phase.Ready }))
    joins_so b [] of all slack op = record {
      label = of;
      labels = tt;
      opens = subst (λ m. IsOpen (record v { ends = v.ends ++ end_at n a ∷ [] }) m []) (joined_top b c.top) op;
      slack = slack;
      calls = tt;
      done = tt;
    }
    joins_so b (q ∷ qs) of all slack op = record {
      label = of;
      labels = all;
      opens = subst (λ m. IsOpen (record v { ends = v.ends ++ end_at n a ∷ [] }) (mark_of c.top) (m ∷ map mark_of qs)) (joined_top b q) op;
      slack = slack;
      calls = tt;
      done = tt;
    }

    commits_so : (bs : List Level) → c.blocks ≡ bs →
        Tracks v asks ans phase.Committing c.number c.asked (mark_of c.top) (map mark_of c.blocks) →
        Holds (record v { ends = v.ends ++ end_at n a ∷ [] }) asks ans (commits_at bs c)
    commits_so [] is t = never (subst (λ ls. IsOpen v (mark_of c.top) (map mark_of ls)) is t.opens)
        (ap (λ ls. let m = inner_of c.top ls in m.label) (sym is) ∙ same)
      where
        never : IsOpen v (mark_of c.top) [] → (let t = c.top in t.label) ≡ name l →
            Holds (record v { ends = v.ends ++ end_at n a ∷ [] }) asks ans (commits_at [] c)
        never (t0, x ∷ below, op) e = absurd op.stack
        never (t0, [], op) e =
            let both : Some t0 ≡ Some a = sym (top_there v.acts t0 (mark_of c.top) [] [] op.stack) ∙ ap (act_in v.acts) e ∙ found in
            let one : t0 ≡ a = cc in
            let no_way : kind.Top ≡ kind.Nested = sym op.kind ∙ ap (λ (x : Act). x.kind) one ∙ nested in absurd (cc no_way)
    commits_so (b ∷ bs) is t =
        joins_so b bs t.label (let all = subst (λ ls. AllByRecursion (λ (m : Mark). IsOf c.number m.label)
        (map mark_of ls)) is t.labels in all.1)
        t.slack (joined (subst (λ ls. IsOpen v (mark_of c.top) (map mark_of ls)) is t.opens)
        (ap (λ ls. let m = inner_of c.top ls in m.label) (sym is) ∙ same))
      where
        joined : IsOpen v (mark_of c.top) (mark_of b ∷ map mark_of bs) → b.label ≡ name l →
            IsOpen (record v { ends = v.ends ++ end_at n a ∷ [] }) (join_top (mark_of b) (mark_of c.top) (map mark_of bs)) (join_blocks
            (mark_of b) (map mark_of bs))
        joined (t0, [], op) e = absurd op.stack
        joined (t0, x ∷ below, op) e =
            let both : Some x ≡ Some a =
            sym (act_of_path v.acts b.label (t0 ∷ chain_of below) x (let s = op.stack in s.0)) ∙ ap (act_in v.acts) e ∙ found in
            let one : a ≡ x = cc in
            (t0, below, open_joined v t0 x (end_at n a) (ap (λ (y : Act). y.id) one) (mark_of b) (mark_of c.top) below (map mark_of bs) op)

    pub hears_committed_own : Holds v asks ans c → Holds (next_view n (body.Committed l) v) asks ans committed_heard
    hears_committed_own h =
        read_so (either (Holds (record v { ends = v.ends ++ end_at n a ∷ [] }) asks ans) (waits phase.Committing (name l) c)
        (commits_at c.blocks c) c
        (λ e. commits_so c.blocks refl (holds_so v asks ans c phase.Committing now h))
        (λ e. both_ways (waits phase.Committing (name l) c)
        (and_both (is_phase phase.Committing c.phase) (bytes_eq (let m = inner c in m.label) (name l)) (ap (is_phase phase.Committing) now)
        (ap (bytes_eq (let m = inner c in m.label)) (sym same) ∙ label_itself (let m = inner c in m.label))) e))
