mod Carries
