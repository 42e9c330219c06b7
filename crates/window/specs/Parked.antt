-- The commands of a panel that are still parked.
use Rattle.std.specs.Prelude.{List, map}
use Rattle.window.specs.declared.numbered_content.NumberedContent.{NumberedContent}
use Rattle.window.specs.Applied.{contents_from}
use Rattle.window.specs.Taken.{Ask, Command, Taken, front}
use Rattle.window.specs.Window.{window}

abbrev pub command_of : NumberedContent → Ask
command_of entry = Command entry.number entry.content

-- by rising number; none lies past the window
abbrev pub parked_asks : Taken → List Ask
parked_asks taken = map command_of (contents_from window taken (front taken))
