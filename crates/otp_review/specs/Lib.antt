pub mod OnOtp
