-- Keyed slots of the store in memory: which keys stand, and the imported entry under each text.
use Rattle.std.specs.Prelude.{Bool, List, [], ◌∷◌, cond, Option, Some, None, IfSome, is_some, ◌≡◌, string_bytes}
use Rattle.std.specs.BTreeMap.{BTreeMap, get_by_text, keys}
use Rattle.std.specs.Bool.{IsTrue}
use Rattle.std.specs.List.{list_any}
use Rattle.std.specs.declared.string.String.{String}
use Rattle.dates.specs.declared.entry.Entry.{Entry}
use Rattle.dates.specs.Entry.{spelling}
use Rattle.points.specs.Texts.{Text}

-- what an entry holds, if there is one and it holds something
abbrev pub flatten : {A : Type 0} → Option (Option A) → Option A
flatten None = None
flatten (Some slot) = slot

-- the keys whose values pass a test, in order
abbrev pub standing_keys : {K X : Type 0} → (X → Bool) → List (K × X) → List K
standing_keys stands [] = []
standing_keys stands (e ∷ es) = cond (stands e.1) (e.0 ∷ standing_keys stands es) (standing_keys stands es)

-- there is an entry whose value passes a test
abbrev pub IsStanding : {X : Type 0} → (X → Bool) → Option X → Type 0
IsStanding stands None = ⊥
IsStanding stands (Some x) = IsTrue (stands x)

module _ {Y : Type 0} where
  -- the entry of a text
  abbrev pub entry_slot : BTreeMap (String Y) (Option Entry) → Text → Option (Option Entry)
  entry_slot entries text = get_by_text entries text

  abbrev pub has_text : BTreeMap (String Y) (Option Entry) → Text → Bool
  has_text entries text = is_some (flatten (entry_slot entries text))

  abbrev pub has_entries : BTreeMap (String Y) (Option Entry) → Bool
  has_entries entries = list_any (λ key. has_text entries (string_bytes key)) (keys entries)

  -- each entry stands under its text
  abbrev pub AreSpelled : BTreeMap (String Y) (Option Entry) → Type 0
  AreSpelled entries = (text : Text) → IfSome (flatten (entry_slot entries text)) (λ entry. spelling entry ≡ text)
