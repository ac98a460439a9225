-- The forms of the lines of a test text behind the second.
use Rattle.std.specs.Prelude.{◌≡◌, ℕ, ◌-◌, ◌^◌, List, ◌++◌, Option, Some, None, ◌==◌, nat_eq, if◌then◌else◌, min, drop, codes}
use Rattle.std.specs.Option.{option_map}
use Rattle.std.specs.Str.{bytes_eq}
use Rattle.std.specs.List.{starts_with}
use Rattle.test_lang.specs.declared.op.FenceKind.TheVariants.{Full, Store as StoreFence, Load as LoadFence}
use Rattle.test_lang.specs.declared.op.Action.TheVariants.{Load, Store, Fence}
use Rattle.test_lang.specs.declared.text.form.Form.{Form}
use Rattle.test_lang.specs.declared.text.form.Form.TheVariants.{Thread, Operation, End}
use Rattle.test_lang.specs.Text.Numeral.{IsNumeralOf, part, whole_numeral}

-- The line is a word, and behind it a part that is the numeral of n.
pub record IsNumbered (word : List ℕ) (n : ℕ) (line : List ℕ) : Type 0 where
  pub numeral : List ℕ
  pub is_numeral : IsNumeralOf n numeral
  pub whole : line ≡ word ++ part numeral

-- The line has this form, in a text of this version. Only version 2 has lines of store fences and of load fences.
abbrev pub HasForm : ℕ → List ℕ → Form → Type 0
HasForm version line Thread = line ≡ codes "thread"
HasForm version line (Operation (Load word)) = IsNumbered (codes "ld") word line
HasForm version line (Operation (Store word)) = IsNumbered (codes "st") word line
HasForm version line (Operation (Fence Full)) = line ≡ codes "fence"
HasForm version line (Operation (Fence StoreFence)) = (line ≡ codes "fence st") × (version ≡ 2)
HasForm version line (Operation (Fence LoadFence)) = (line ≡ codes "fence ld") × (version ≡ 2)
HasForm version line End = line ≡ codes "end"

-- the form of the line of a store fence or a load fence
abbrev pub partial_fence_of : List ℕ → Option Form
partial_fence_of line =
    if bytes_eq line (codes "fence st") then Some (Operation (Fence StoreFence))
    else if bytes_eq line (codes "fence ld") then Some (Operation (Fence LoadFence))
    else None

-- The form of a line, if it has one.
abbrev pub form_of : ℕ → List ℕ → Option Form
form_of version line =
    if bytes_eq line (codes "thread") then Some Thread
    else if bytes_eq line (codes "fence") then Some (Operation (Fence Full))
    else if bytes_eq line (codes "end") then Some End
    else if starts_with nat_eq line (codes "ld ") then option_map (λ word. Operation (Load word)) (whole_numeral (drop 3 line))
    else if starts_with nat_eq line (codes "st ") then option_map (λ word. Operation (Store word)) (whole_numeral (drop 3 line))
    else if version == 2 then partial_fence_of line
    else None

-- A word as it is read, held down to the largest of 32 bits.
abbrev pub held_word : ℕ → ℕ
held_word word = min word (2 ^ 32 - 1)

abbrev pub held_form : Form → Form
held_form Thread = Thread
held_form (Operation (Load word)) = Operation (Load (held_word word))
held_form (Operation (Store word)) = Operation (Store (held_word word))
held_form (Operation (Fence kind)) = Operation (Fence kind)
held_form End = End
