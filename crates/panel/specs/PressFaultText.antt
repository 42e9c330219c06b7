-- The message for each reason why a press sends no command.
use Rattle.std.specs.Prelude.{ℕ, List, codes}
use Rattle.panel.specs.declared.press_fault.PressFault.{PressFault}
use Rattle.panel.specs.declared.press_fault.PressFault.TheVariants.{Full, NoNumberLeft, NoMemory}

-- the text for whoever pressed
abbrev pub text_of : PressFault → List ℕ
text_of Full = codes "64 commands are in flight"
text_of NoNumberLeft = codes "the last number was used"
text_of NoMemory = codes "no memory"
