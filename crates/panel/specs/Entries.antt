-- The entry of a journal that a JSON object tells.
use Rattle.std.specs.Prelude.{Option, Some, None, codes}
use Rattle.serde_json.specs.Data.{Data}
use Rattle.serde_json.specs.Find.{get}
use Rattle.points.specs.declared.content.Content.{Content}
use Rattle.delivery_json.specs.Readings.{name_in, priority_in, value_in}
use Rattle.panel.specs.declared.entry.Entry.{Entry}
use Rattle.panel.specs.declared.entry.Entry.TheVariants.{Began, GaveUp, Heard, Pressed}
use Rattle.panel.specs.Replies.{count_in, reply_in}
use Rattle.points.specs.Steps.{◌>>=◌}

-- the content of a command, whatever other keys its object has
unfoldable pub content_in : Data → Option Content
content_in d = do
  point ← get (codes "point") d >>= name_in
  priority ← priority_in (get (codes "priority") d)
  value ← get (codes "value") d >>= value_in
  Some (record { point = point; priority = priority; value = value })

unfoldable pub pressed_in : Data → Option Entry
pressed_in d = do
  number ← count_in (codes "number") d
  content ← content_in d
  Some (Pressed number content)

unfoldable pub began_in : Data → Option Entry
began_in d = do
  first ← count_in (codes "first") d
  panel ← get (codes "panel") d >>= name_in
  Some (Began panel first)

unfoldable pub gave_up_in : Data → Option Entry
gave_up_in d = do
  number ← count_in (codes "give_up") d
  Some (GaveUp number)

unfoldable pub heard_in : Data → Option Entry
heard_in d = do
  reply ← reply_in d
  Some (Heard reply)

-- an object with the key `answer` tells a reply that was heard, one with `give_up` a give-up, one with `first` the
-- beginning, another one a press
abbrev pub entry_with_first : Option Data → Data → Option Entry
entry_with_first None d = pressed_in d
entry_with_first (Some first) d = began_in d

abbrev pub entry_with_give_up : Option Data → Data → Option Entry
entry_with_give_up None d = entry_with_first (get (codes "first") d) d
entry_with_give_up (Some given) d = gave_up_in d

abbrev pub entry_with : Option Data → Data → Option Entry
entry_with None d = entry_with_give_up (get (codes "give_up") d) d
entry_with (Some answer) d = heard_in d

unfoldable pub entry_in : Data → Option Entry
entry_in d = entry_with (get (codes "answer") d) d
