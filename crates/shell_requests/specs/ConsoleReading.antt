-- What the values that a line of the console is read as mean.
use Rattle.std.specs.Str.{chars}
use Rattle.shell_requests.specs.declared.console.ConsoleRequest.{ConsoleRequest as ReadRequest}
use Rattle.shell_requests.specs.declared.console.ConsoleRequest.TheVariants.{Show, NameMark, ToNamed}
use Rattle.shell_requests.specs.declared.console.MarkWord.{MarkWord}
use Rattle.shell_requests.specs.declared.console.MarkWord.TheVariants as marks
use Rattle.shell_requests.specs.declared.console.Sight.{Sight as ReadSight}
use Rattle.shell_requests.specs.declared.console.Sight.TheVariants as sights
use Rattle.shell_requests.specs.Console.{ConsoleRequest, Sight, WhichMark, help, help_on, journal, listing, name_mark, named, numbered, preview, queue, show, to_named}
use Rattle.shell_requests.specs.Reading.{who_is}

-- the mark that was read
abbrev pub mark_is : MarkWord → WhichMark
mark_is (marks.Number mark) = numbered mark
mark_is (marks.Name name) = named (chars name.text.now)

-- what is to be shown
abbrev pub sight_is : ReadSight → Sight
sight_is sights.Help = help
sight_is (sights.HelpOn word) = help_on word.now
sight_is (sights.List it) = listing it
sight_is (sights.Queue process) = queue (who_is process)
sight_is (sights.Journal mark) = journal mark
sight_is (sights.Preview mark) = preview (mark_is mark)

-- the request that was read
abbrev pub console_meant : ReadRequest → ConsoleRequest
console_meant (Show sight) = show (sight_is sight)
console_meant (NameMark name) = name_mark (chars name.text.now)
console_meant (ToNamed kind name) = to_named kind (chars name.text.now)
