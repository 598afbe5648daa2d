-- Committed tops, as they are kept for keys.
use Rattle.std.proofs.Common.{◌≡◌, ℕ, ◌+◌, List, [], ◌∷◌, ◌++◌, length, map, Bool, true, false, cond, ◌&&◌, ◌==◌, max, Option, Some, None}
use Rattle.std.proofs.Common.{slice_get, refl, sym, ◌∙◌, ap, arith}
use Rattle.std.specs.List.{list_all, filter_map, cons_option}
use Rattle.arj_class.specs.declared.op.Op.{Op}
use Rattle.std.specs.Option.{option_map, unwrap_or}
use Rattle.arj_base.specs.declared.uid.Uid.{Uid}
use Rattle.arj_journal.specs.declared.body.Body.{Body}
use Rattle.arj_journal.specs.declared.body.Body.TheVariants as body
use Rattle.arj_journal.specs.declared.body.Line.{Line}
use Rattle.arj_text.specs.Label.{name}
use Rattle.arj_model.specs.Actions.{Act, Begun, Placed, act_in, acts, acts_after, acts_from, begun_of, chain_in, committed, has_end, id_in}
use Rattle.arj_model.specs.Actions.{is_committed, numbered, path, path_in, put, read, recovered, top_in}
use Rattle.arj_model.specs.Calls.{Call, Said, Top, call_of, committing_of, kept, kept_in, said_of, top_of, tops}
use Rattle.arj_model.specs.Serial.{root_of, top_place, unit_place}
use Rattle.arj_reading.specs.Readable.{called_of}
use Rattle.arj_reading.specs.Reading.{first_place, said_at}
use Rattle.arj_reading.proofs.Numbers.{AreNumbered, get_stays, path_none}
use Rattle.arj_replay.specs.Orders.{paths}
use Rattle.arj_check.specs.Keys.{key_at, key_below, path_at, place_item, root_item, top_at}
use Rattle.arj_check.proofs.Paths.{path_here}

-- Roots, places and units.

pub root_is : (ts : List Top) (id : ℕ) → unwrap_or (first_place (map root_item ts) id) id ≡ root_of ts id
root_is [] id = refl
root_is (t ∷ ts) id = by (t.id == id) (root_is ts id)
  where
    by : (b : Bool) → unwrap_or (first_place (map root_item ts) id) id ≡ root_of ts id →
        unwrap_or (cond b (Some t.root) (first_place (map root_item ts) id)) id ≡ cond b t.root (root_of ts id)
    by true ih = refl
    by false ih = ih

pub place_is : (ts : List Top) (id : ℕ) → unwrap_or (first_place (map place_item ts) id) 0 ≡ top_place ts id
place_is [] id = refl
place_is (t ∷ ts) id = by (t.id == id) (place_is ts id)
  where
    by : (b : Bool) → unwrap_or (first_place (map place_item ts) id) 0 ≡ top_place ts id →
        unwrap_or (cond b (Some t.at) (first_place (map place_item ts) id)) 0 ≡ cond b t.at (top_place ts id)
    by true ih = refl
    by false ih = ih

-- one top more
pub unit_push : (ts : List Top) (t : Top) (r : ℕ) →
    unit_place (ts ++ t ∷ []) r ≡ cond (t.root == r) (max t.at (unit_place ts r)) (unit_place ts r)
unit_push [] t r = refl
unit_push (u ∷ ts) t r = by (u.root == r) (t.root == r) (unit_push ts t r)
  where
    three : (a b c : ℕ) → max a (max b c) ≡ max b (max a c)
    three a b c = omega arith

    by : (b c : Bool) → unit_place (ts ++ t ∷ []) r ≡ cond c (max t.at (unit_place ts r)) (unit_place ts r)
        → cond b (max u.at (unit_place (ts ++ t ∷ []) r)) (unit_place (ts ++ t ∷ []) r) ≡ cond c (max t.at (cond b (max u.at (unit_place ts r)) (unit_place ts r))) (cond b (max u.at (unit_place ts r)) (unit_place ts r))
    by true true ih = ap (max u.at) ih ∙ three u.at t.at (unit_place ts r)
    by true false ih = ap (max u.at) ih
    by false true ih = ih
    by false false ih = ih

-- The paths of a journal's actions stay where more begin.

path_stays : (us : List Act) (b : Body) (i : ℕ) (p : List Act) → slice_get (paths us) i ≡ Some p →
    slice_get (paths (acts_after us b)) i ≡ Some p
path_stays us b i p e = by (begun_of b)
  where
    by : (o : Option Begun) → slice_get (paths (numbered us o)) i ≡ Some p
    by None = e
    by (Some g) =
        get_stays (paths us) (path_in us (record { id = length us; label = g.label; kind = g.kind; uid = g.uid; parent = g.parent })) p i e

pub paths_stay : (us : List Act) (ls : List Line) (i : ℕ) (p : List Act) → slice_get (paths us) i ≡ Some p →
    slice_get (paths (acts_from us ls)) i ≡ Some p
paths_stay us [] i p e = e
paths_stay us (l ∷ ls) i p e = paths_stay (acts_after us l.body) ls i p (path_stays us l.body i p e)

numbered_more : (us : List Act) (b : Body) → AreNumbered us → AreNumbered (acts_after us b)
numbered_more us b h = by (begun_of b)
  where
    by : (o : Option Begun) → AreNumbered (numbered us o)
    by None = h
    by (Some g) = (refl, h)

-- the path of a label, by the number of its action
abbrev path_of : List (List Act) → Option ℕ → List Act
path_of ps None = []
path_of ps (Some i) = path_at ps i

label_path : (us : List Act) → AreNumbered us → (ls : List Line) (l : List ℕ) → path us l ≡ path_of (paths (acts_from us ls)) (id_in us l)
label_path us h ls l = by (act_in us l) refl
  where
    by : (o : Option Act) → act_in us l ≡ o → path us l ≡ path_of (paths (acts_from us ls)) (option_map (λ a. a.id) o)
    by None e = path_none us l e
    by (Some a) e = sym (ap (λ o. unwrap_or o []) (paths_stay us ls a.id (path us l) (path_here us h l a e)))

-- the committed tops by the marks of the commits that were called
module _ (ends : List (Placed ℕ)) (found : List (Placed Uid)) where
  no_top : (n : ℕ) (p : List Act) → p ≡ [] → top_of ends found (record { at = n; it = p }) ≡ None
  no_top n p e = ap (λ q. top_of ends found (record { at = n; it = q })) e

  pub tops_by : (us : List Act) → AreNumbered us → (n : ℕ) (ls : List Line) →
      filter_map (top_of ends found) (read committing_of us n ls) ≡ filter_map (top_at ends found (paths (acts_from us ls))) (read called_of us n ls)
  tops_by us h n [] = refl
  tops_by us h n (l ∷ ls) = by l.body refl (tops_by (acts_after us l.body) (numbered_more us l.body h) (n + 1) ls)
    where
      Rest : Type 0
      Rest = filter_map (top_of ends found) (read committing_of (acts_after us l.body) (n + 1) ls) ≡ filter_map (top_at ends found (paths (acts_from us (l ∷ ls)))) (read called_of (acts_after us l.body) (n + 1) ls)

      at_label : (k : List ℕ) (o : Option ℕ) → id_in us k ≡ o → Rest →
          filter_map (top_of ends found) (put n (Some (path us k)) (read committing_of (acts_after us l.body) (n + 1) ls)) ≡ filter_map (top_at ends found (paths (acts_from us (l ∷ ls)))) (put n o (read called_of (acts_after us l.body) (n + 1) ls))
      at_label k None e ih =
          (λ i. cons_option (no_top n (path us k) (label_path us h (l ∷ ls) k ∙ ap (path_of (paths (acts_from us (l ∷ ls)))) e) i) (ih i))
      at_label k (Some j) e ih =
          (λ i. cons_option (top_of ends found (record {
            at = n;
            it =
                (label_path us h (l ∷ ls) k ∙ ap (path_of (paths (acts_from us (l ∷ ls)))) e) i;
          })) (ih i))

      by : (b : Body) → l.body ≡ b → Rest →
          filter_map (top_of ends found) (put n (committing_of us b) (read committing_of (acts_after us l.body) (n + 1) ls)) ≡ filter_map (top_at ends found (paths (acts_from us (l ∷ ls)))) (put n (called_of us b) (read called_of (acts_after us l.body) (n + 1) ls))
      by (body.Committing k) e ih = at_label (name k) (id_in us (name k)) refl ih
      by b e ih = ih

pub tops_are : (lines : List Line) →
    tops lines ≡ filter_map (top_at (committed lines) (recovered lines) (paths (acts lines))) (read called_of [] 0 lines)
tops_are lines = tops_by (committed lines) (recovered lines) [] tt 0 lines

-- Keys of calls, by the marks of the calls that were answered.
module _ (ends : List (Placed ℕ)) (found : List (Placed Uid)) (key : List Act → Act → ℕ → List ℕ) (own : Call → List ℕ)
    (is_own : (s : Placed Said) (top : Act) → own (call_of s top) ≡ key s.it.path top s.at) where
  kept_key : (s : Placed Said) (o : Option Act) → option_map own (kept_in ends found s o) ≡ key_below key ends found s.it.path s.at o
  kept_key s None = refl
  kept_key s (Some top) = by (list_all (λ a. has_end ends a.id) (chain_in s.it.path) && is_committed ends found top)
    where
      by : (b : Bool) → option_map own (cond b (Some (call_of s top)) None) ≡ cond b (Some (key s.it.path top s.at)) None
      by true = ap Some (is_own s top)
      by false = refl

  one_call : (o : Option Call) (cs : List Call) → map own (cons_option o cs) ≡ cons_option (option_map own o) (map own cs)
  one_call None cs = refl
  one_call (Some c) cs = refl

  pub keys_by : (us : List Act) → AreNumbered us → (n : ℕ) (ls : List Line) →
      map own (filter_map (kept ends found) (read said_of us n ls)) ≡ filter_map (key_at key ends found (paths (acts_from us ls))) (read said_at us n ls)
  keys_by us h n [] = refl
  keys_by us h n (l ∷ ls) = by l.body refl (keys_by (acts_after us l.body) (numbered_more us l.body h) (n + 1) ls)
    where
      before : List (Placed Said)
      before = read said_of (acts_after us l.body) (n + 1) ls

      marks : List (Placed ℕ)
      marks = read said_at (acts_after us l.body) (n + 1) ls

      ps : List (List Act)
      ps = paths (acts_from us (l ∷ ls))

      Rest : Type 0
      Rest = map own (filter_map (kept ends found) before) ≡ filter_map (key_at key ends found ps) marks

      at_label : (k : List ℕ) (x : ℕ) (op : Op) (answer : List ℕ) (o : Option ℕ) → id_in us k ≡ o → Rest
          → map own (filter_map (kept ends found) (put n (Some (record {
            path = path us k;
            x = x;
            op = op;
            answer =
                answer;
          })) before)) ≡ filter_map (key_at key ends found ps) (put n o marks)
      at_label k x op answer o e ih =
          let s : Placed Said = record { at = n; it = record { path = path us k; x = x; op = op; answer = answer } } in
          let p : path us k ≡ path_of ps o = label_path us h (l ∷ ls) k ∙ ap (path_of ps) e in
          one_call (kept ends found s) (filter_map (kept ends found) before)
          ∙ (λ i. cons_option (kept_key s (top_in (path us k)) i) (ih i))
          ∙ (λ i. cons_option (key_below key ends found (p i) n (top_in (p i))) (filter_map (key_at key ends found ps) marks))
          ∙ last o
        where
          last : (o : Option ℕ) →
              cons_option (key_below key ends found (path_of ps o) n (top_in (path_of ps o))) (filter_map (key_at key ends found ps) marks) ≡ filter_map (key_at key ends found ps) (put n o marks)
          last None = refl
          last (Some j) = refl

      by : (b : Body) → l.body ≡ b → Rest →
          map own (filter_map (kept ends found) (put n (said_of us b) before)) ≡ filter_map (key_at key ends found ps) (put n (said_at us b) marks)
      by (body.Ok k x op answer) e ih = at_label (name k) x op answer (id_in us (name k)) refl ih
      by b e ih = ih
