-- The window ahead of a panel's front and the memory behind it, as counts of numbers.
use Rattle.std.specs.Prelude.{ℕ}
use Rattle.window.specs.declared.TheConstants.{WINDOW, REMEMBERED}

-- how many numbers from the front on a panel may use: the front itself, and the next ones
unfoldable pub window : ℕ
window = WINDOW

-- of how many numbers below the front it is remembered what was accepted under them
unfoldable pub remembered : ℕ
remembered = REMEMBERED
