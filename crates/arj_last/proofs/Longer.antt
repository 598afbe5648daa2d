-- What is kept of a journal with one line more.
use Rattle.std.proofs.Common.{◌≡◌, ℕ, ◌+◌, List, [], ◌∷◌, ◌++◌, length, map, Bool, true, false, cond, ◌&&◌, ◌==◌, Option, Some, None, refl}
use Rattle.std.proofs.Common.{sym}
use Rattle.std.proofs.Common.{◌∙◌, ap, arith}
use Rattle.std.specs.Prelude.{filter}
use Rattle.std.specs.List.{cons_option, filter_map}
use Rattle.std.specs.Option.{option_map}
use Rattle.std.proofs.lemmas.List.{map-append}
use Rattle.std.proofs.lemmas.List.Elements.{filter-append, filter_map-append}
use Rattle.arj_class.specs.Table.{writes}
use Rattle.arj_class.specs.declared.op.Op.{Op}
use Rattle.arj_journal.specs.declared.body.Body.{Body}
use Rattle.arj_journal.specs.declared.body.Body.TheVariants as body
use Rattle.arj_journal.specs.declared.body.Line.{Line}
use Rattle.arj_text.specs.Label.{name}
use Rattle.arj_model.proofs.Read.{read-append}
use Rattle.arj_model.specs.Actions.{Act, Placed, acts, chain_in, path, put, top_in}
use Rattle.arj_model.specs.Calls.{Call, Said, call_of, committing_of, committings, ids, made, made_in, said, said_of}
use Rattle.arj_model.specs.Serial.{writes_on}
use Rattle.arj_standing.proofs.Paths.{named}
use Rattle.arj_standing.specs.Begun.{AreBegun, link, links, links_named}
use Rattle.arj_standing.specs.declared.begun.Begun.{Begun}
use Rattle.arj_changes.proofs.Longer.{called_more}
use Rattle.arj_changes.proofs.Paths.{called_is, chain_is, ids_are, top_is}
use Rattle.arj_changes.specs.Kept.{called_of}
use Rattle.arj_changes.specs.Lines.{called_in}
use Rattle.arj_changes.specs.Paths.{chain_links, link_ids, top_link}
use Rattle.arj_changes.specs.declared.kept.Called.{Called}
use Rattle.arj_last.specs.Kept.{called_at, number_of, write_by, write_of, written_on}
use Rattle.arj_last.specs.declared.kept.Write.{Write}

none_more : (n : ℕ) → 0 + n ≡ n
none_more n = omega arith

-- an answered call, with its top
abbrev made_of : Placed Said → Option Call
made_of s = made_in s (top_in s.it.path)

module _ (y at n : ℕ) (place : at ≡ n) where
  -- a write in an action with this path and top
  write_there : (p : List Act) (x : ℕ) (op : Op) (answer : List ℕ) (o : Option Act)
      → cond ((x == y) && writes op) (cons_option (write_by at (links p) (option_map link o)) []) []
      ≡ map write_of (filter (writes_on y) (cons_option (made_in (record {
        at = n;
        it = record {
          path = p;
          x = x;
          op = op;
          answer =
              answer;
        };
      }) o) []))
  write_there p x op answer None = by ((x == y) && writes op) []
    where
      by : (b : Bool) (none : List Write) → cond b none none ≡ none
      by true none = refl
      by false none = refl
  write_there p x op answer (Some t) = by ((x == y) && writes op)
    where
      c : Call
      c = call_of (record { at = n; it = record { path = p; x = x; op = op; answer = answer } }) t

      chain : link_ids (chain_links (links p)) ≡ ids (chain_in p)
      chain = ap link_ids (chain_is p) ∙ ids_are (chain_in p)

      by : (b : Bool) → cond b (cons_option (write_by at (links p) (Some (link t))) []) [] ≡ map write_of (cond b (c ∷ []) [])
      by true = (λ i. record { at = place i; top = t.id; writer = t.uid; chain = chain i } ∷ [])
      by false = refl

  -- the write that a line answers
  written_there : (us : List Act) (bs : List Begun) → AreBegun us bs → (b : Body)
      → written_on bs at y b ≡ map write_of (filter (writes_on y) (filter_map made_of (put n (said_of us b) [])))
  written_there us bs has (body.Ok l x op answer) =
      (λ i. cond ((x == y) && writes op) (cons_option (write_by at (named us bs has (name l) i) (top_link (named us bs has
      (name l) i))) []) [])
      ∙ (λ i. cond ((x == y) && writes op) (cons_option (write_by at (links p) (top_is p i)) []) [])
      ∙ write_there p x op answer (top_in p)
    where
      p : List Act
      p = path us (name l)
  written_there us bs has b = refl

-- the writes on an object
pub on_more : (lines : List Line) (line : Line) (bs : List Begun) (y at : ℕ) (old : List Write) → AreBegun (acts lines) bs →
    at ≡ length lines
    → old ≡ map write_of (filter (writes_on y) (made lines)) →
    old ++ written_on bs at y line.body ≡ map write_of (filter (writes_on y) (made (lines ++ line ∷ [])))
on_more lines line bs y at old has place is =
    (λ i. is i ++ written_there y at n (place ∙ sym (none_more (length lines))) (acts lines) bs has line.body i)
    ∙ sym (map-append write_of (filter (writes_on y) (made lines)) (filter (writes_on y) (filter_map made_of here)))
    ∙ ap (map write_of) (sym (filter-append (writes_on y) (made lines) (filter_map made_of here)))
    ∙ ap (λ cs. map write_of (filter (writes_on y) cs)) (sym (filter_map-append made_of (said lines) here))
    ∙ ap (λ ss. map write_of (filter (writes_on y) (filter_map made_of ss))) (sym (read-append said_of [] 0 lines line))
  where
    n : ℕ
    n = 0 + length lines

    here : List (Placed Said)
    here = put n (said_of (acts lines) line.body) []

called_there : (by_root : Bool) (n : ℕ) (o : Option Called) →
    filter (λ c. number_of by_root c == n) (cons_option o []) ≡ called_at by_root n o
called_there by_root n None = refl
called_there by_root n (Some c) = refl

-- the called commits under a number
pub called_under : (by_root : Bool) (lines : List Line) (line : Line) (bs : List Begun) (n at : ℕ) (old : List Called) (o : Option Called)
    → AreBegun (acts lines) bs → at ≡ length lines → o ≡ called_in bs at line.body
    → old ≡ filter (λ c. number_of by_root c == n) (filter_map called_of (committings lines))
    → old ++ called_at by_root n o ≡ filter (λ c. number_of by_root c == n) (filter_map called_of (committings (lines ++ line ∷ [])))
called_under by_root lines line bs n at old o has place one is =
    (λ i. is i ++ sym (called_there by_root n o) i)
    ∙ sym (filter-append test (filter_map called_of (committings lines)) (cons_option o []))
    ∙ ap (filter test) (called_more lines line (filter_map called_of (committings lines)) o at place refl (one
    ∙ called_is (acts lines) bs has at line.body))
  where
    test : Called → Bool
    test c = number_of by_root c == n
