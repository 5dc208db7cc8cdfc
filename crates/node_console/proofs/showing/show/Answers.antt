-- Each sight is shown.
use Rattle.std.proofs.Common.{IfOk, subst, sym}
use Rattle.node_console.specs.Console.{Shows}
use Rattle.node_console.specs.Held.{IsShown, console_of}
use Rattle.shell_requests.specs.ConsoleReading.{sight_is}
use Rattle.shell_requests.specs.declared.console.Sight.{Sight}
use Rattle.node_console.proofs.showing.show.Goals as goal

pub returns-in-Help : goal.returns-in-Help
returns-in-Help c =
    subst (λ (s : Sight). IfOk c.show_commands.result (λ fate. IsShown (Shows (console_of c.args.held.now c.args.books.now) (sight_is s) fate) c.args.out.now.items c.show_commands.new.out.items)) (sym c.in-Help.is) c.show_commands.ensures

pub returns-in-HelpOn : goal.returns-in-HelpOn
returns-in-HelpOn c =
    subst (λ (s : Sight). IfOk c.show_help.result (λ fate. IsShown (Shows (console_of c.args.held.now c.args.books.now) (sight_is s) fate) c.args.out.now.items c.show_help.new.out.items)) (sym c.in-HelpOn.is) c.show_help.ensures

pub returns-in-List : goal.returns-in-List
returns-in-List c =
    subst (λ (s : Sight). IfOk c.show_list.result (λ fate. IsShown (Shows (console_of c.args.held.now c.args.books.now) (sight_is s) fate) c.args.out.now.items c.show_list.new.out.items)) (sym c.in-List.is) c.show_list.ensures

pub returns-in-Queue : goal.returns-in-Queue
returns-in-Queue c =
    subst (λ (s : Sight). IfOk c.show_queue.result (λ fate. IsShown (Shows (console_of c.args.held.now c.args.books.now) (sight_is s) fate) c.args.out.now.items c.show_queue.new.out.items)) (sym c.in-Queue.is) c.show_queue.ensures

pub returns-in-Journal : goal.returns-in-Journal
returns-in-Journal c =
    subst (λ (s : Sight). IfOk c.show_steps.result (λ fate. IsShown (Shows (console_of c.args.held.now c.args.books.now) (sight_is s) fate) c.args.out.now.items c.show_steps.new.out.items)) (sym c.in-Journal.is) c.show_steps.ensures

pub returns-in-Preview : goal.returns-in-Preview
returns-in-Preview c =
    subst (λ (s : Sight). IfOk c.preview.result (λ fate. IsShown (Shows (console_of c.args.held.now c.args.books.now) (sight_is s) fate) c.args.out.now.items c.preview.new.out.items)) (sym c.in-Preview.is) c.preview.ensures
